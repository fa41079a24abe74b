-- Places of lists that are emptied or filled one after another.
use Rattle.std.proofs.Common.{◌≡◌, ℕ, zero, suc, ◌+◌, ◌<◌, ◌≤◌, List, [], ◌∷◌, length, get_or, set, Option, Some, None, sym, refl, ap, ◌∙◌, subst, arith, get_or-set_other, All}
use Rattle.std.specs.Prelude.{slice_get}
use mathlib.Core.Logic.{dite}
use native.Mathlib.Decide.{ℕ_discrete}
use Rattle.std.proofs.lemmas.Option.{same_Some}

module _ {X : Type 0} where
  -- what was taken out is not there
  emptied_at : (xs : List (Option X)) (i : ℕ) → get_or (set xs i None) i None ≡ None
  emptied_at [] i = refl
  emptied_at (x ∷ xs) zero = refl
  emptied_at (x ∷ xs) (suc i) = emptied_at xs i

  pub emptied_next : (xs ys : List (Option X)) (n : ℕ) → ys ≡ set xs n None → ((i : ℕ) → i < n → get_or xs i None ≡ None) → (i : ℕ) → i < n + 1 → get_or ys i None ≡ None
  emptied_next xs ys n is before i below = ap (λ (l : List (Option X)). get_or l i None) is ∙ dite (ℕ_discrete i n)
      (λ e. ap (λ k. get_or (set xs n None) k None) e ∙ emptied_at xs n)
      (λ ne. get_or-set_other xs n i None None ne ∙ before i (omega arith))

  pub left_next : (was xs ys : List (Option X)) (n : ℕ) (v : Option X) → ys ≡ set xs n v → ((i : ℕ) → n ≤ i → get_or xs i None ≡ get_or was i None)
      → (i : ℕ) → n + 1 ≤ i → get_or ys i None ≡ get_or was i None
  left_next was xs ys n v is before i above = ap (λ (l : List (Option X)). get_or l i None) is
      ∙ (get_or-set_other xs n i v None (λ e. omega arith) ∙ before i (omega arith))

  pub there : (xs : List X) (k : ℕ) (d : X) → k < length xs → slice_get xs k ≡ Some (get_or xs k d)
  there [] k d h = absurd (omega arith)
  there (x ∷ xs) zero d h = refl
  there (x ∷ xs) (suc k) d h = there xs k d (omega arith)

  -- what holds of the first elements of a list, and of all of them
  pub all_first : (P : X → Type 0) (xs : List X) (n : ℕ) → n ≡ length xs → ((k : ℕ) (x : X) → k < n → slice_get xs k ≡ Some x → P x) → All P xs
  all_first P xs n all first k d below = first k (get_or xs k d) (omega arith) (there xs k d below)

  pub first_next : (P : X → Type 0) (xs : List X) (n : ℕ) (y : X) → slice_get xs n ≡ Some y → P y → ((k : ℕ) (x : X) → k < n → slice_get xs k ≡ Some x → P x)
      → (k : ℕ) (x : X) → k < n + 1 → slice_get xs k ≡ Some x → P x
  first_next P xs n y here holds before k x below at = dite (ℕ_discrete k n)
      (λ e. subst P (same_Some y x (sym here ∙ (ap (slice_get xs) (sym e) ∙ at))) holds)
      (λ ne. before k x (omega arith) at)
