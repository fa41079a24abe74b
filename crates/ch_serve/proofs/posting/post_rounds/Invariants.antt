use Rattle.ch_house.specs.DeskViews.{view_of}
use Rattle.ch_serve.specs.Webhooks.{Gathers}
use Rattle.ch_serve.proofs.posting.post_rounds.Given as goal

abbrev pub invariant-loop-turn : goal.invariant-loop-turn
invariant-loop-turn g l = Gathers (view_of l.fn.desk) (view_of l.desk) l.fn.sending.batcher.state l.sending.batcher.state
