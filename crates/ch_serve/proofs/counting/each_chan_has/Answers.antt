use Rattle.std.proofs.Common.{◌≤◌, arith}
use Rattle.ch_house.specs.declared.counts.ShardCount.{ShardCount}
use Rattle.ch_serve.proofs.Places.{all_first, first_next}
use Rattle.ch_serve.proofs.counting.each_chan_has.Goals as goal

pub loop-shard-preserved : goal.loop-shard-preserved
loop-shard-preserved c =
    first_next (λ (n : ShardCount). c.args.entries ≤ n.entries) c.args.closed.now.chans c.loop-shard.shard c.chan.result c.chan.ensures (omega arith) c.loop-shard.invariant

pub returns : goal.returns
returns c = λ _. all_first (λ (n : ShardCount). c.args.entries ≤ n.entries) c.args.closed.now.chans c.loop-shard.shard (omega arith) c.loop-shard.invariant
