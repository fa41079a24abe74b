-- Rows in the order of their names.
use Rattle.std.specs.Prelude.{◌≡◌, false, List, [], ◌∷◌}
use Rattle.std.specs.List.{AllByRecursion}
use Rattle.ch_base.specs.declared.channel.NameRow.{NameRow}
use Rattle.ch_sig.specs.Parameters.{is_before}

-- the row may stand below the other: its name doesn't come before the other's
abbrev pub MayFollow : NameRow → NameRow → Type 0
MayFollow other row = is_before row.channel other.channel ≡ false

-- each row may stand below all that are above it
abbrev pub AreInOrder : List NameRow → Type 0
AreInOrder [] = Unit {0}
AreInOrder (row ∷ rows) = AllByRecursion (MayFollow row) rows × AreInOrder rows
