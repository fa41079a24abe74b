use Rattle.std.proofs.Common.{sym, subst, ap, ◌∙◌}
use Rattle.ch_clients.proofs.Sound.{sound_placed}
use Rattle.ch_clients.specs.Clients.{ClientsView, MayTurn, has_room}
use Rattle.ch_clients.proofs.clients.Clients.let_in.Goals as goal

pub invariant_of-self : goal.invariant_of-self
invariant_of-self g c =
    let inside = c.self.inside in
    sound_placed (record { config = inside.server.config; start = inside.server.start; connected = inside.lists.connected; leaving = inside.lists.leaving })
    c.new-client.result c.place.new.self c.place.ensures (ap (λ (v : ClientsView). has_room v) c.self.view_is ∙ c.requires.room)
    (subst (MayTurn inside.server.config) (sym c.new-client.ensures) tt) c.self.invariant
