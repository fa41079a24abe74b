use Rattle.ch_clients.proofs.Sound.{sound_handed}
use Rattle.ch_clients.proofs.clients.Clients.hand.Goals as goal

pub invariant_of-self : goal.invariant_of-self
invariant_of-self g c =
    let inside = c.self.inside in
    sound_handed (record { config = inside.server.config; start = inside.server.start; connected = inside.lists.connected; leaving = inside.lists.leaving })
    c.args.frame c.hand.new.self c.hand.ensures c.self.invariant
