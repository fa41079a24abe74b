use Rattle.std.proofs.Common.{refl, arith}
use Rattle.rows_shards.proofs.NullText.{is_null}
use Rattle.rows_shards.proofs.chan_shard.say.Goals as goal

pub returns : goal.returns
returns c = (c.requires.socket, omega arith, rw c.in_ok-of.ensures c.requires.name, rw c.in_ok-of.ensures c.requires.kind, rw c.in_ok-of-2.ensures refl, rw c.in_ok-of-3.ensures is_null)
