use Rattle.std.proofs.Common.{◌-◌, length}
use Rattle.ch_clients.proofs.Visiting.{Visiting}
use Rattle.ch_clients.proofs.leaving.Leaving.lose.Given as goal

abbrev pub invariant-loop-place : goal.invariant-loop-place
invariant-loop-place g l = Visiting l.server.config l.now l.fn.self l.self (g.D.Desk.view l.fn.desk) (g.D.Desk.view l.desk) l.place l.part

abbrev pub decreases-loop-place : goal.decreases-loop-place
decreases-loop-place g l = length l.self - l.place
