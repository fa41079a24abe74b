use Rattle.std.proofs.Common.{◌≡◌, ◌-◌, length}
use Rattle.ch_clients.proofs.Serving.{Serving}
use Rattle.ch_clients.specs.Serving.{setting_of}
use Rattle.ch_clients.proofs.clients.Clients.serve.Given as goal

abbrev pub invariant-loop-place : goal.invariant-loop-place
invariant-loop-place g l =
    (l.self-inside.server ≡ l.initial.self-inside.server)
    × Serving (setting_of l.fn.self l.now g.L.Link.messages) (record { connected = l.fn.self.connected; leaving = l.fn.self.leaving })
    (record { connected = l.self-inside.lists.connected; leaving = l.self-inside.lists.leaving })
    (g.D.Desk.view l.fn.desk) (g.D.Desk.view l.desk) l.place l.part

abbrev pub decreases-loop-place : goal.decreases-loop-place
decreases-loop-place g l = length l.self-inside.lists.connected - l.place
