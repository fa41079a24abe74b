-- Lists of two counts.
use Rattle.std.proofs.Common.{◌≡◌, List, [], ◌∷◌, length, Some, arith}
use Rattle.std.specs.Prelude.{slice_get}

pub two_are : {X : Type 0} (xs : List X) (a b : X) → length xs ≡ 2 → slice_get xs 0 ≡ Some a → slice_get xs 1 ≡ Some b → xs ≡ a ∷ b ∷ []
two_are [] a b long first second = absurd (omega arith)
two_are (x ∷ []) a b long first second = absurd (omega arith)
two_are (x ∷ y ∷ []) a b long first second = let p : x ≡ a = cc in let q : y ≡ b = cc in λ i. p i ∷ q i ∷ []
two_are (x ∷ y ∷ z ∷ more) a b long first second = absurd (omega arith)
