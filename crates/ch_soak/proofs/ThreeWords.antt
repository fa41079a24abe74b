-- Lists of three words.
use Rattle.std.proofs.Common.{◌≡◌, ◌≤◌, ◌<◌, List, [], ◌∷◌, length, get_or, sym, arith}

pub three_are : {X : Type 0} (xs : List X) (a b c : X) → 3 ≤ length xs → length xs < 4 → a ≡ get_or xs 0 a → b ≡ get_or xs 1 b → c ≡ get_or xs 2 c → xs ≡ a ∷ b ∷ c ∷ []
three_are [] a b c long short first second third = absurd (omega arith)
three_are (x ∷ []) a b c long short first second third = absurd (omega arith)
three_are (x ∷ y ∷ []) a b c long short first second third = absurd (omega arith)
three_are (x ∷ y ∷ z ∷ []) a b c long short first second third = λ i. sym first i ∷ sym second i ∷ sym third i ∷ []
three_are (x ∷ y ∷ z ∷ w ∷ more) a b c long short first second third = absurd (omega arith)
