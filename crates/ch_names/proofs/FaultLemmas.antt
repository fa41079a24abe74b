-- that a text has no fault
use Rattle.std.proofs.Common.{◌≡◌, ◌↔◌, ℕ, ◌+◌, List, [], ◌∷◌, length, Bool, true, false, cond, not, refl, arith, ◌&&◌, nat_le}
use Rattle.std.specs.Prelude.{None, Some}
use Rattle.std.specs.List.{position_from, list_all}
use Rattle.std.proofs.lemmas.Bool.Decides.{nat_tests}
use Rattle.ch_names.specs.Faults.{length_fault}

-- no element fails the test exactly where all pass it
pub no_position : (test : ℕ → Bool) (i : ℕ) (xs : List ℕ) → (position_from (λ x. not (test x)) i xs ≡ None) ↔ (list_all test xs ≡ true)
no_position test i [] = (λ _. refl, λ _. refl)
no_position test i (x ∷ xs) =
    elim (test x) as (λ passes. (cond (not passes) (Some i) (position_from (λ y. not (test y)) (i + 1) xs) ≡ None) ↔ ((passes && list_all test xs) ≡ true)) [
      | true ↦ no_position test (i + 1) xs
      | false ↦ (λ here. cc, λ fails. cc)
    ]

pub no_length_fault : (limit : ℕ) (text : List ℕ) → (length_fault limit text ≡ None) ↔ ((nat_le 1 (length text) && nat_le (length text) limit) ≡ true)
no_length_fault limit text = (λ none. grind (arith, nat_tests), λ within. grind (arith, nat_tests))
