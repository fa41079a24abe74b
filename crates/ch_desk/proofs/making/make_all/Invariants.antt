use Rattle.ch_desk.proofs.MakingSteps.{Begun}
use Rattle.ch_desk.proofs.making.make_all.Given as goal

abbrev pub invariant-loop-ask : goal.invariant-loop-ask
invariant-loop-ask g l =
    Begun l.asks l.answers l.ask-index (g.D.Desk.view l.fn.desk) (g.D.Desk.view l.desk)
