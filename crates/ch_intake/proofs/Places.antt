-- Lists read at one place, and made longer.
use Rattle.std.proofs.Common.{◌≡◌, ◌⊎◌, ℕ, zero, suc, ◌+◌, ◌<◌, get_or, Option, None, ◌∙◌, List, [], ◌∷◌, ◌++◌, length, take, Some, inl, inr, ⊎_elim, refl, sym, ap, subst, arith, ◌≤◌}
use Rattle.std.specs.Prelude.{slice_get}
use mathlib.Core.Option.{some, some-injective, some-ne-none}
use mathlib.Core.Logic.{dite}
use native.Mathlib.Decide.{ℕ_discrete}
use lib.ListN.{get_elem?}

module _ {X : Type 0} where
  -- what is said of each element with its place, said of one more element
  pub each_push : (P : ℕ → X → Type 0) (xs : List X) (x : X) → ((k : ℕ) (y : X) → slice_get xs k ≡ Some y → P k y) → P (length xs) x
      → (k : ℕ) (y : X) → slice_get (xs ++ x ∷ []) k ≡ Some y → P k y
  each_push P [] x each last zero y at = let same : x ≡ y = cc in subst (P 0) same last
  each_push P [] x each last (suc k) y at = absurd (cc)
  each_push P (z ∷ zs) x each last zero y at = each zero y at
  each_push P (z ∷ zs) x each last (suc k) y at = each_push (λ i. P (suc i)) zs x (λ i w e. each (suc i) w e) last k y at

  -- one element more of a list
  pub take_one_more : (xs : List X) (k : ℕ) (x : X) → slice_get xs k ≡ Some x → take (suc k) xs ≡ take k xs ++ x ∷ []
  take_one_more [] k x at = absurd (cc)
  take_one_more (y ∷ ys) zero x at = let same : y ≡ x = cc in λ i. same i ∷ []
  take_one_more (y ∷ ys) (suc k) x at = ap (λ l. y ∷ l) (take_one_more ys k x at)

  -- within its length a list has an element
  pub element_within : (xs : List X) (k : ℕ) → suc k ≤ length xs → (x : X) × (slice_get xs k ≡ Some x)
  element_within [] k h = absurd (omega arith)
  element_within (x ∷ xs) zero h = (x, refl)
  element_within (x ∷ xs) (suc k) h = element_within xs k (omega arith)

  -- an element of a list that was made longer is one of the list, or the last one
  pub at_longer_list : (xs : List X) (x y : X) (j : ℕ) → get_elem? (xs ++ x ∷ []) j ≡ some y → (get_elem? xs j ≡ some y) ⊎ ((j ≡ length xs) × (x ≡ y))
  at_longer_list [] x y zero at = inr (refl, some-injective x y at)
  at_longer_list [] x y (suc j) at = absurd (some-ne-none y (sym at))
  at_longer_list (z ∷ zs) x y zero at = inl at
  at_longer_list (z ∷ zs) x y (suc j) at = ⊎_elim (λ e. inl e) (λ (e : (j ≡ length zs) × (x ≡ y)). inr (ap suc e.0, e.1)) (at_longer_list zs x y j at)

module _ {X : Type 0} where
  -- an element that was pushed, with None beyond the list
  push_front : (xs : List (Option X)) (x : Option X) (i : ℕ) → i < length xs → get_or (xs ++ x ∷ []) i None ≡ get_or xs i None
  push_front [] x i h = absurd (omega arith)
  push_front (y ∷ ys) x zero h = refl
  push_front (y ∷ ys) x (suc i) h = push_front ys x i (omega arith)

  push_back : (xs : List (Option X)) (x : Option X) (i : ℕ) → i ≡ length xs → get_or (xs ++ x ∷ []) i None ≡ x
  push_back [] x zero h = refl
  push_back [] x (suc i) h = absurd (omega arith)
  push_back (y ∷ ys) x zero h = absurd (omega arith)
  push_back (y ∷ ys) x (suc i) h = push_back ys x i (omega arith)

  -- one element more of a list that has f i at i
  pub push_next : (f : ℕ → Option X) (items next : List (Option X)) (i : ℕ) (x : Option X) → next ≡ items ++ x ∷ [] → length items ≡ i
      → ((j : ℕ) → j < i → get_or items j None ≡ f j) → x ≡ f i → (j : ℕ) → j < i + 1 → get_or next j None ≡ f j
  push_next f items next i x is len each here j l = ap (λ (l : List (Option X)). get_or l j None) is ∙ dite (ℕ_discrete j i)
      (λ e. push_back items x j (omega arith) ∙ (here ∙ ap f (sym e)))
      (λ ne. push_front items x j (omega arith) ∙ each j (omega arith))

  -- within its length a list is read without a default
  pub default_any : (xs : List X) (i : ℕ) (d e : X) → i < length xs → get_or xs i d ≡ get_or xs i e
  default_any [] i d e h = absurd (omega arith)
  default_any (x ∷ xs) zero d e h = refl
  default_any (x ∷ xs) (suc i) d e h = default_any xs i d e (omega arith)
