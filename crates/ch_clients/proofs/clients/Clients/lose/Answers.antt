use Rattle.ch_clients.proofs.Sound.{sound_lost}
use Rattle.ch_clients.proofs.clients.Clients.lose.Goals as goal

pub invariant_of-self : goal.invariant_of-self
invariant_of-self g c =
    let inside = c.self.inside in
    let e = c.lose.ensures in
    sound_lost (record { config = inside.server.config; start = inside.server.start; connected = inside.lists.connected; leaving = inside.lists.leaving })
    c.args.now e.visits.0 c.lose.new.self (g.D.Desk.view c.args.desk.now) (g.D.Desk.view c.lose.new.desk) c.lose.result e.visits.1 e.over c.self.invariant
