use Rattle.std.proofs.Common.{sym, subst}
use Rattle.ch_live.specs.Peers.{IsPeerOver}
use Rattle.ch_live.proofs.Delivering.{over_delivered}
use Rattle.ch_live.proofs.live.Live.deliver_shared.Goals as goal

pub returns-clause-over : goal.returns-clause-over
returns-clause-over g c = λ config over.
    subst (λ p. IsPeerOver config p) (sym c.deliver_to.ensures.peer) (over_delivered config c.args.self.now.peer c.shared.result over)
