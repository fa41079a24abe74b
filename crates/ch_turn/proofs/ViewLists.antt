-- Lists of views by seat, and sums over them.
use Rattle.std.proofs.Common.{◌≡◌, ◌≢◌, ◌⊎◌, inl, inr, ⊎_elim, ℕ, zero, suc, ◌+◌, ◌-◌, ◌*◌, ◌<◌, ◌≤◌, List, [], ◌∷◌, ◌++◌, length, set, sym, refl, ap, ◌∙◌, subst, arith}
use mathlib.Core.Logic.{dite}
use mathlib.Core.Option.{some, some-injective, some-ne-none}
use native.Mathlib.Decide.{ℕ_discrete}
use lib.ListN.{get_elem?}
use Rattle.atomic_table.proofs.Lists.{at_set, set_here, set_else, at_longer}
use Rattle.ch_turn.specs.declared.limits.TheConstants.{MOST_CALLS}
use Rattle.ch_turn.specs.declared.table.View.{View}
use Rattle.ch_turn.specs.Views.{total, calls_of, callers_of}

module _ {V : Type 0} where
  pub inside : (vs : List V) (i : ℕ) (v : V) → get_elem? vs i ≡ some v → i < length vs
  inside [] i v e = absurd (some-ne-none v (sym e))
  inside (x ∷ xs) zero v e = omega arith
  inside (x ∷ xs) (suc i) v e = let h = inside xs i v e in omega arith

  -- some view with Q stays at the seat `at`, where the seat `me` goes from v to w
  pub stays_at : (Q : V → Type 0) (vs : List V) (me : ℕ) (v w : V) → get_elem? vs me ≡ some v → (at : ℕ) → (Q v → Q w) → (u : V) × (get_elem? vs at ≡ some u) × Q u
      → (u : V) × (get_elem? (set vs me w) at ≡ some u) × Q u
  stays_at Q vs me v w here at move h = dite (ℕ_discrete at me)
      (λ e. let same : h.0 ≡ v = some-injective h.0 v (sym h.1 ∙ (ap (get_elem? vs) e ∙ here)) in
      (w, ap (get_elem? (set vs me w)) e ∙ set_here vs me w (inside vs me v here), move (subst Q same h.2)))
      (λ other. (h.0, set_else vs me at w other ∙ h.1, h.2))

  -- what K says of each seat stays, where the seat `me` has the view w
  pub seats_stay : (K : ℕ → V → Type 0) (vs : List V) (me : ℕ) (w : V) → K me w → ((j : ℕ) (d : V) → j ≢ me → get_elem? vs j ≡ some d → K j d)
      → (j : ℕ) (d : V) → get_elem? (set vs me w) j ≡ some d → K j d
  seats_stay K vs me w mine others j d e = ⊎_elim (λ (t : (j ≡ me) × (w ≡ d)). subst (λ (x : ℕ × V). K x.0 x.1) (λ i. (sym t.0 i, t.1 i)) mine)
      (λ (t : (j ≢ me) × (get_elem? vs j ≡ some d)). others j d t.0 t.1) (at_set vs me j w d e)

  -- some view with Q is there, in a longer list
  pub still : (Q : V → Type 0) (vs : List V) (right : V) (at : ℕ) → (u : V) × (get_elem? vs at ≡ some u) × Q u → (u : V) × (get_elem? (vs ++ right ∷ []) at ≡ some u) × Q u
  still Q vs right at h = (h.0, at_longer vs (right ∷ []) at h.0 h.1, h.2)

  -- what stands in a list that is longer by one stood there before, or is the last
  pub snoc_at : (l : List V) (a b : V) (j : ℕ) → get_elem? (l ++ a ∷ []) j ≡ some b → (get_elem? l j ≡ some b) ⊎ ((j ≡ length l) × (a ≡ b))
  snoc_at [] a b zero e = inr (refl, some-injective a b e)
  snoc_at [] a b (suc j) e = absurd (some-ne-none b (sym e))
  snoc_at (x ∷ xs) a b zero e = inl e
  snoc_at (x ∷ xs) a b (suc j) e = ⊎_elim (λ (h : get_elem? xs j ≡ some b). inl h) (λ (h : (j ≡ length xs) × (a ≡ b)). inr (ap suc h.0, h.1)) (snoc_at xs a b j e)

module _ {C A : Type 0} where
  pub total_set : (f : View C A → ℕ) (vs : List (View C A)) (i : ℕ) (v w : View C A) → get_elem? vs i ≡ some v → total f (set vs i w) + f v ≡ total f vs + f w
  total_set f [] i v w e = absurd (some-ne-none v (sym e))
  total_set f (x ∷ xs) zero v w e = let same : f x ≡ f v = ap f (some-injective x v e) in omega arith
  total_set f (x ∷ xs) (suc i) v w e = let h = total_set f xs i v w e in omega arith

  pub total-push : (f : View C A → ℕ) (vs : List (View C A)) (v : View C A) → total f (vs ++ v ∷ []) ≡ total f vs + f v
  total-push f [] v = omega arith
  total-push f (x ∷ xs) v = let h = total-push f xs v in omega arith

  -- where each view has made few calls for its callers, all have
  pub total_le : (vs : List (View C A)) → ((i : ℕ) (v : View C A) → get_elem? vs i ≡ some v → v.calls ≤ (v.high - v.low) * MOST_CALLS) → total calls_of vs ≤ total callers_of vs * MOST_CALLS
  total_le [] h = omega arith
  total_le (x ∷ xs) h = let a = h 0 x refl in let b = total_le xs (λ i v e. h (suc i) v e) in omega arith
