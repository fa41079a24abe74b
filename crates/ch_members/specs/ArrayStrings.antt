-- The strings of an array.
use Rattle.std.specs.Prelude.{ℕ, List, [], ◌∷◌}
use Rattle.ch_base.specs.JsonTree.{Tree}
use Rattle.ch_base.specs.ObjectMembers.{IsStringOf}

-- the values are strings that stand for these texts
abbrev pub AreStrings : List ℕ → List Tree → List (List ℕ) → Type 0
AreStrings text [] [] = Unit {0}
AreStrings text (v ∷ vs) (x ∷ xs) = IsStringOf text v x × AreStrings text vs xs
AreStrings text _ _ = ⊥
