-- Texts that are joined by commas.
use Rattle.std.proofs.Common.{◌≡◌, ℕ, List, [], ◌∷◌, ◌++◌, refl, ap, map}
use Rattle.std.proofs.lemmas.List.{append-nil}
use Rattle.std.specs.Prelude.{codes}
use Rattle.std.specs.List.{join_by, join_with_byte}

-- what `join` gives is what stands for the pieces, joined by the byte
pub join_by-with_byte : {X : Type 0} (f : X → List ℕ) (xs : List X) → join_by f (codes ",") xs ≡ join_with_byte 44 (map f xs)
join_by-with_byte f [] = refl
join_by-with_byte f (x ∷ []) = append-nil (f x)
join_by-with_byte f (x ∷ y ∷ xs) = ap (λ (rest : List ℕ). f x ++ (44 ∷ rest)) (join_by-with_byte f (y ∷ xs))
