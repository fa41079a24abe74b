use Rattle.std.proofs.Common.{◌-◌, length}
use Rattle.ch_dispatch.proofs.LossSteps.{Losing}
use Rattle.ch_dispatch.proofs.losing.lose.Given as goal

abbrev pub invariant-loop-ask : goal.invariant-loop-ask
invariant-loop-ask g l = Losing l.now l.fn.session l.session (g.D.Desk.view l.fn.desk) (g.D.Desk.view l.desk)

abbrev pub decreases-loop-ask : goal.decreases-loop-ask
decreases-loop-ask g l = length l.session.told.used - l.session.lost
