use Rattle.std.proofs.Common.{[], ◌∷◌, codes, refl, arith}
use Rattle.ch_base.specs.JsonText.{byte, IsJsonString}
use Rattle.rows_shards.proofs.user_shard.event_call.Goals as goal

is_string : IsJsonString (codes "\"d\"")
is_string = (byte 100 ∷ [], (100 ∷ 34 ∷ [], refl, (refl, (34 ∷ [], refl, refl))))

pub returns : goal.returns
returns c = (omega arith, rw c.in_ok-of.ensures c.requires, rw c.in_ok-of-2.ensures refl, rw c.in_ok-of-3.ensures is_string)
