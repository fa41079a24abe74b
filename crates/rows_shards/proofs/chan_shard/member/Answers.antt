use Rattle.rows_shards.proofs.NullText.{is_null}
use Rattle.rows_shards.proofs.chan_shard.member.Goals as goal

pub returns : goal.returns
returns c = (rw c.in_ok-of.ensures c.requires, rw c.in_ok-of-2.ensures is_null)
