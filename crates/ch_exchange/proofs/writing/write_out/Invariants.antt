use Rattle.std.proofs.Common.{length}
use Rattle.ch_exchange.proofs.Written.{HasWritten}
use Rattle.ch_exchange.proofs.writing.write_out.Given as goal

abbrev pub invariant-loop-link : goal.invariant-loop-link
invariant-loop-link g l = HasWritten l.fn.reply l.reply (g.L.Link.told l.fn.link) (g.L.Link.told l.link)

abbrev pub decreases-loop-link : goal.decreases-loop-link
decreases-loop-link g l = length l.reply.left
