use Rattle.std.proofs.Common.{[], ◌∷◌, codes, refl, arith}
use Rattle.ch_base.specs.JsonText.{byte, IsJsonString}
use Rattle.rows_house.proofs.house.event.Goals as goal

is_string : IsJsonString (codes "\"x\"")
is_string = (byte 120 ∷ [], (120 ∷ 34 ∷ [], refl, (refl, (34 ∷ [], refl, refl))))

pub returns-clause-formed : goal.returns-clause-formed
returns-clause-formed c = (omega arith, rw c.in_ok-of.ensures refl, rw c.in_ok-of-2.ensures refl, rw c.in_ok-of-3.ensures is_string)
