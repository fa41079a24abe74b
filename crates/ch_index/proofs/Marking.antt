-- The numbers and the marks of the rows with a name.
use Rattle.std.proofs.Common.{◌≡◌, ℕ, true, false, cond, List, [], ◌∷◌, bytes_eq, filter, map, refl, ap}
use Rattle.std.specs.Map.{keys_of, values_of}
use Rattle.ch_index.specs.Rows.{named}
use Rattle.ch_index.specs.Numbered.{numbers_at, marks_at}

module _ {R M : Type 0} (name : R → List ℕ) (mark : R → M) where
  pub keys_marked : (es : List (ℕ × R)) (c : List ℕ) → keys_of (marks_at name mark es c) ≡ numbers_at name es c
  keys_marked [] c = refl
  keys_marked (e ∷ es) c =
      let rest = filter (λ e. bytes_eq (name e.1) c) es in
      elim (bytes_eq (name e.1) c) as (λ b. keys_of (map (λ e. (e.0, mark e.1)) (cond b (e ∷ rest) rest)) ≡ map (λ e. e.0) (cond b (e ∷ rest) rest)) [
        | true ↦ ap (λ ks. e.0 ∷ ks) (keys_marked es c)
        | false ↦ keys_marked es c
      ]

  pub values_marked : (es : List (ℕ × R)) (c : List ℕ) → values_of (marks_at name mark es c) ≡ map mark (named name (values_of es) c)
  values_marked [] c = refl
  values_marked (e ∷ es) c =
      let rest = filter (λ e. bytes_eq (name e.1) c) es in
      elim (bytes_eq (name e.1) c) as (λ b. values_of (map (λ e. (e.0, mark e.1)) (cond b (e ∷ rest) rest)) ≡ map mark (cond b (e.1 ∷ named name (values_of es) c) (named name (values_of es) c))) [
        | true ↦ ap (λ hs. mark e.1 ∷ hs) (values_marked es c)
        | false ↦ values_marked es c
      ]
