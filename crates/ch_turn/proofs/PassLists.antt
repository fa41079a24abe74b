-- The passes of a lock, as they are dealt and taken in.
use Rattle.std.proofs.Common.{◌≡◌, ℕ, zero, suc, ◌+◌, ◌<◌, ◌≤◌, List, [], ◌∷◌, ◌++◌, length, get_or, set, Option, Some, None, IfSome, IsSome, sym, refl, ap, ◌∙◌, subst, arith, append_assoc, length-set}
use Rattle.std.proofs.lemmas.List.{get_or-set_same, get_or-set_other}
use mathlib.Core.Logic.{dite}
use native.Mathlib.Decide.{ℕ_discrete, dec_lt}
use Rattle.ch_base.specs.declared.entry.Entry.{Entry}
use Rattle.ch_base.specs.Growth.{NotBy}
use Rattle.ch_turn.specs.Callers.{GrowsByOthers}
use Rattle.ch_turn.specs.PassModels.{LockModel, PassModel, IsPassOf, AllInPlace}
use Rattle.ch_turn.proofs.Entries.{not_by-append}

module _ {X : Type 0} where
  past : (xs : List (Option X)) (i : ℕ) → length xs ≤ i → get_or xs i None ≡ None
  past [] i h = refl
  past (x ∷ xs) zero h = absurd (omega arith)
  past (x ∷ xs) (suc i) h = past xs i (omega arith)

  at_front : (xs : List (Option X)) (x : Option X) (i : ℕ) → i < length xs → get_or (xs ++ x ∷ []) i None ≡ get_or xs i None
  at_front [] x i h = absurd (omega arith)
  at_front (y ∷ ys) x zero h = refl
  at_front (y ∷ ys) x (suc i) h = at_front ys x i (omega arith)

  at_end : (xs : List (Option X)) (x : Option X) (i : ℕ) → i ≡ length xs → get_or (xs ++ x ∷ []) i None ≡ x
  at_end [] x zero h = refl
  at_end [] x (suc i) h = absurd (omega arith)
  at_end (y ∷ ys) x zero h = absurd (omega arith)
  at_end (y ∷ ys) x (suc i) h = at_end ys x i (omega arith)

  -- one more element of a list that has f i at i
  pub push_each : (f : ℕ → Option X) (items next : List (Option X)) (i : ℕ) (x : Option X) → next ≡ items ++ x ∷ [] → length items ≡ i → ((j : ℕ) → j < i → get_or items j None ≡ f j) → x ≡ f i
      → (j : ℕ) → j < i + 1 → get_or next j None ≡ f j
  push_each f items next i x is len each here j l = ap (λ (l : List (Option X)). get_or l j None) is ∙ dite (ℕ_discrete j i)
      (λ e. at_end items x j (omega arith) ∙ (here ∙ ap f (sym e)))
      (λ ne. at_front items x j (omega arith) ∙ each j (omega arith))

module _ {C A : Type 0} where
  -- entries of other callers, and then more of them
  pub others_more : (caller : ℕ) (seen old new more : List (Entry C A)) → GrowsByOthers caller seen old → old ++ more ≡ new → NotBy caller more → GrowsByOthers caller seen new
  others_more caller seen old new more h is apart = (h.0 ++ more, sym (append_assoc seen h.0 more) ∙ (ap (λ l. l ++ more) h.1 ∙ is), not_by-append caller h.0 more h.2 apart)

  module _ (legal : ℕ × ℕ → List (Entry C A) → Type 0) (lock : LockModel) (slots : List (Option (PassModel C A))) where
    -- a pass that is there is the one of its number
    pub pass_at : AllInPlace legal lock slots → (i : ℕ) (pass : Option (PassModel C A)) → pass ≡ get_or slots i None → IfSome pass (IsPassOf legal lock i)
    pass_at in_place i (Some p) is = in_place i p (sym is)
    pass_at in_place i None is = tt

    -- a place is filled with the pass of its number, or emptied
    pub set_in_place : (i : ℕ) (pass : Option (PassModel C A)) → (length slots ≡ lock.callers) × AllInPlace legal lock slots → IfSome pass (IsPassOf legal lock i)
        → (length (set slots i pass) ≡ lock.callers) × AllInPlace legal lock (set slots i pass)
    set_in_place i pass h own = (length-set slots i pass ∙ h.0, each)
      where
        here : (p : PassModel C A) → get_or (set slots i pass) i None ≡ Some p → pass ≡ Some p
        here p at = dite (dec_lt i (length slots))
            (λ l. sym (get_or-set_same slots i pass None l) ∙ at)
            (λ beyond. let none_there : get_or (set slots i pass) i None ≡ None = past (set slots i pass) i (omega (arith, length-set slots i pass)) in absurd (cc (none_there, at)))

        each : (j : ℕ) (p : PassModel C A) → get_or (set slots i pass) j None ≡ Some p → IsPassOf legal lock j p
        each j p at = dite (ℕ_discrete j i)
            (λ (is : j ≡ i).
            let at' : get_or (set slots i pass) i None ≡ Some p = ap (λ k. get_or (set slots i pass) k None) (sym is) ∙ at in
            subst (λ (k : ℕ). IsPassOf legal lock k p) (sym is) (subst (λ (o : Option (PassModel C A)). IfSome o (IsPassOf legal lock i)) (here p at') own))
            (λ other. h.1 j p (sym (get_or-set_other slots i j pass None other) ∙ at))

    module _ (count : length slots ≡ lock.callers) (in_place : AllInPlace legal lock slots) where
      pub caller_of : (i : ℕ) (p : PassModel C A) → get_or slots i None ≡ Some p → (i < lock.callers) × (p.caller ≡ i)
      caller_of i p there = dite (dec_lt i (length slots))
          (λ l. (omega arith, (in_place i p there).0))
          (λ beyond. let none_there : get_or slots i None ≡ None = past slots i (omega arith) in absurd (cc (none_there, there)))

      -- the pass of the caller i was taken over: what was seen then is longer by entries of later callers, and has the list of this pass too
      pub take_over_each : (i : ℕ) (pass : PassModel C A) (old new : List (Entry C A)) → get_or slots i None ≡ Some pass
          → ((j : ℕ) (p : PassModel C A) → j < i → get_or slots j None ≡ Some p → GrowsByOthers p.caller p.seen old)
          → (more : List (Entry C A)) × (old ++ more ≡ new) × ((k : ℕ) → k < pass.caller → NotBy k more) → GrowsByOthers pass.caller pass.seen new
          → (j : ℕ) (p : PassModel C A) → j < i + 1 → get_or slots j None ≡ Some p → GrowsByOthers p.caller p.seen new
      take_over_each i pass old new there each grows now j p l at = dite (ℕ_discrete j i)
          (λ (is : j ≡ i).
          let at' : get_or slots i None ≡ Some p = ap (λ k. get_or slots k None) (sym is) ∙ at in
          let same : pass ≡ p = cc (there, at') in
          subst (λ (q : PassModel C A). GrowsByOthers q.caller q.seen new) same now)
          (λ earlier.
          let mine = (caller_of j p at).1 in
          let theirs = (caller_of i pass there).1 in
          others_more p.caller p.seen old new grows.0 (each j p (omega arith) at) grows.1 (grows.2 p.caller (omega arith)))

-- a default is not read within a list
pub default_any : {X : Type 0} (xs : List X) (i : ℕ) (d e : X) → i < length xs → get_or xs i d ≡ get_or xs i e
default_any [] i d e h = absurd (omega arith)
default_any (x ∷ xs) zero d e h = refl
default_any (x ∷ xs) (suc i) d e h = default_any xs i d e (omega arith)

pub some_of : {X : Type 0} (r : Option X) → IsSome r → (x : X) × (r ≡ Some x)
some_of (Some x) h = (x, refl)
some_of None h = absurd (cc h)
