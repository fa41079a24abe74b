use Rattle.std.proofs.Common.{[], ◌∷◌, codes, refl, arith}
use Rattle.ch_base.specs.JsonText.{byte, IsJsonString}
use Rattle.bench_shard.proofs.calls.publish.Goals as goal

is_string : IsJsonString (codes "\"x\"")
is_string = (byte 120 ∷ [], (120 ∷ 34 ∷ [], refl, (refl, (34 ∷ [], refl, refl))))

pub returns : goal.returns
returns c = (omega arith, rw c.in_ok-of.ensures c.requires, rw c.in_ok-of-2.ensures refl, rw c.in_ok-of-3.ensures is_string)
