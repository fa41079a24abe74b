use Rattle.ch_house.specs.DeskViews.{view_of}
use Rattle.ch_serve.proofs.Gathering.{DropsTo}
use Rattle.ch_serve.proofs.posting.drop_events.Given as goal

abbrev pub invariant-loop-shard : goal.invariant-loop-shard
invariant-loop-shard g l = DropsTo l.now l.shard (view_of l.fn.desk) (view_of l.desk)
