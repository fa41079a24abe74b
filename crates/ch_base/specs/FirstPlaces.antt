-- The texts of a list, each once.
use Rattle.std.specs.Prelude.{not, ℕ, List, [], ◌∷◌, filter, bytes_eq}

-- each text at its first place alone
abbrev pub first_places : List (List ℕ) → List (List ℕ)
first_places [] = []
first_places (x ∷ xs) = x ∷ filter (λ y. not (bytes_eq y x)) (first_places xs)
