use Rattle.ch_batch.proofs.TakesInTurn.{Begun}
use Rattle.ch_batch.proofs.batcher.Batcher.gather.Given as goal

abbrev pub invariant-loop-shard : goal.invariant-loop-shard
invariant-loop-shard g l = Begun l.now l.shard (g.D.Desk.view l.fn.desk) (g.D.Desk.view l.desk) l.fn.self.state l.self.state
