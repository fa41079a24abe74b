-- The numbers of the arrivals that are left.
use Rattle.std.specs.Prelude.{◌≡◌, List, ◌∷◌, All}
use Rattle.std.proofs.Common.{subst}
use Rattle.std.proofs.lemmas.List.Elements.{All-head}

pub head_is : {X : Type 0} (P : X → Type 0) (x : X) (xs ys : List X) → ys ≡ x ∷ xs → All P ys → P x
head_is P x xs ys e all = All-head P x xs (subst (All P) e all)
