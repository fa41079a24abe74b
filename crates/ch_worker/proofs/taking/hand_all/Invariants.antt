use Rattle.std.proofs.Common.{◌≡◌, length}
use Rattle.ch_clients.specs.Clients.{all_handed}
use Rattle.ch_worker.proofs.taking.hand_all.Given as goal

abbrev pub invariant-loop-frame : goal.invariant-loop-frame
invariant-loop-frame g l =
    record l.fn.clients { connected = all_handed l.fn.clients.connected l.fn.frames }
    ≡ record l.clients { connected = all_handed l.clients.connected l.frames }

abbrev pub decreases-loop-frame : goal.decreases-loop-frame
decreases-loop-frame g l = length l.frames
