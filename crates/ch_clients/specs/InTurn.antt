-- Things that are done one after another.
use Rattle.std.specs.Prelude.{◌≡◌, List, [], ◌∷◌}

-- P relates what is there, what it comes to, and how all is before and after. It holds of the two lists, pair by pair, each from
-- where the one before it ended.
module _ {A B S : Type 0} where
  abbrev pub InTurn : (A → B → S → S → Type 0) → List A → List B → S → S → Type 0
  InTurn P [] [] old new = new ≡ old
  InTurn P (x ∷ xs) (y ∷ ys) old new = (next : S) × P x y old next × InTurn P xs ys next new
  InTurn P _ _ old new = ⊥
