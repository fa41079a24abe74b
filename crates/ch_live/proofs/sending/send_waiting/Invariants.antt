use Rattle.std.proofs.Common.{length}
use Rattle.ch_live.proofs.Sendings.{HasSent}
use Rattle.ch_live.proofs.sending.send_waiting.Given as goal

abbrev pub invariant-loop-waiting : goal.invariant-loop-waiting
invariant-loop-waiting g l = HasSent l.start l.fn.backlog l.backlog (g.W.Wire.told l.fn.wire) (g.W.Wire.told l.wire)

abbrev pub decreases-loop-waiting : goal.decreases-loop-waiting
decreases-loop-waiting g l = length l.backlog.frames
