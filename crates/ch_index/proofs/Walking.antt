-- The rows under the numbers of a name.
use Rattle.std.proofs.Common.{◌≡◌, ℕ, true, false, cond, List, [], ◌∷◌, Some, Less, bytes_eq, filter, map, is_some, IsSome, refl, ap, ap₂, ◌∙◌}
use Rattle.std.specs.List.{AllByRecursion, cons_option}
use Rattle.std.specs.List.Sorted.{IsStrictlySortedBy}
use Rattle.std.specs.Ordering.{is_eq, nat_cmp}
use Rattle.std.specs.Map.{keys_of, values_of, lookup}
use Rattle.std.specs.BTreeMap.{is_at}
use Rattle.std.proofs.lemmas.Map.Keys.{sorted_head, sorted_tail}
use Rattle.ch_index.specs.Rows.{named}
use Rattle.ch_index.specs.Numbered.{numbers_at, rows_under, AreThere}
use Rattle.ch_index.proofs.Compared.{is_eq-nat_cmp, number_itself, not_at, less_number}
use Rattle.ch_index.proofs.Reading.{numbers_above}

module _ {R : Type 0} (name : R → List ℕ) where
  under_rest : (e : ℕ × R) (es : List (ℕ × R)) (ks : List ℕ) → AllByRecursion (λ y. nat_cmp e.0 y ≡ Less) ks → rows_under (e ∷ es) ks ≡ rows_under es ks
  under_rest e es [] above = refl
  under_rest e es (k ∷ ks) above =
      ap₂ cons_option (ap (λ b. cond b (Some e.1) (lookup (is_at (nat_cmp k)) es)) (not_at k e.0 (less_number e.0 k above.0))) (under_rest e es ks above.1)

  pub walked : (es : List (ℕ × R)) (c : List ℕ) → IsStrictlySortedBy nat_cmp (keys_of es) → rows_under es (numbers_at name es c) ≡ named name (values_of es) c
  walked [] c rising = refl
  walked (e ∷ es) c rising =
      let its = numbers_at name es c in
      let rest : rows_under (e ∷ es) its ≡ named name (values_of es) c = under_rest e es its (numbers_above name e.0 es c (sorted_head nat_cmp e.0 (keys_of es) rising)) ∙ walked es c (sorted_tail nat_cmp e.0 (keys_of es) rising) in
      elim (bytes_eq (name e.1) c) as (λ b. rows_under (e ∷ es) (map (λ e. e.0) (cond b (e ∷ filter (λ e. bytes_eq (name e.1) c) es) (filter (λ e. bytes_eq (name e.1) c) es))) ≡ cond b (e.1 ∷ named name (values_of es) c) (named name (values_of es) c)) [
        | true ↦ ap₂ cons_option (ap (λ b. cond b (Some e.1) (lookup (is_at (nat_cmp e.0)) es)) (is_eq-nat_cmp e.0 e.0 ∙ number_itself e.0)) rest
        | false ↦ rest
      ]

  still_there : (e : ℕ × R) (es : List (ℕ × R)) (ks : List ℕ) → AreThere es ks → AreThere (e ∷ es) ks
  still_there e es [] there = tt
  still_there e es (k ∷ ks) there =
      (elim (is_eq (nat_cmp k e.0)) as (λ b. IsSome (cond b (Some e.1) (lookup (is_at (nat_cmp k)) es))) [ true ↦ refl | false ↦ there.0 ], still_there e es ks there.1)

  pub all_there : (es : List (ℕ × R)) (c : List ℕ) → AreThere es (numbers_at name es c)
  all_there [] c = tt
  all_there (e ∷ es) c =
      let rest : AreThere (e ∷ es) (numbers_at name es c) = still_there e es (numbers_at name es c) (all_there es c) in
      elim (bytes_eq (name e.1) c) as (λ b. AreThere (e ∷ es) (map (λ e. e.0) (cond b (e ∷ filter (λ e. bytes_eq (name e.1) c) es) (filter (λ e. bytes_eq (name e.1) c) es)))) [
        | true ↦ (ap (λ b. is_some (cond b (Some e.1) (lookup (is_at (nat_cmp e.0)) es))) (is_eq-nat_cmp e.0 e.0 ∙ number_itself e.0), rest)
        | false ↦ rest
      ]
