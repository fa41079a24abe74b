use Rattle.ch_house.specs.DeskViews.{view_of}
use Rattle.ch_serve.specs.Webhooks.{Drops}
use Rattle.ch_serve.proofs.posting.drop_rounds.Given as goal

abbrev pub invariant-loop-turn : goal.invariant-loop-turn
invariant-loop-turn g l = Drops l._turn (view_of l.fn.desk) (view_of l.desk)
