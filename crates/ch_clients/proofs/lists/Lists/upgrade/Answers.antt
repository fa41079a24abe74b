use Rattle.std.proofs.Common.{ap, sym, ◌∙◌}
use Rattle.ch_clients.proofs.Fates.{back_ascends, room_back, upgrade_becomes, upgrade_may}
use Rattle.ch_clients.specs.Spoken.{spoken}
use Rattle.ch_clients.specs.declared.client.Step.TheVariants.{Upgrades}
use Rattle.ch_clients.proofs.lists.Lists.upgrade.Goals as goal

pub put_back-requires-clause-room : goal.put_back-requires-clause-room
put_back-requires-clause-room g c =
    room_back c.args.self.now.connected c.take_out-client.new.self c.args.place c.requires.place c.take_out-client.ensures.left c.requires.room

pub put_back-requires-clause-ascending : goal.put_back-requires-clause-ascending
put_back-requires-clause-ascending g c =
    back_ascends c.args.self.now.connected c.take_out-client.new.self c.args.place c.take_out-client.result c.live.result c.requires.place
    c.take_out-client.ensures.client (ap (λ x. x.number) c.live.ensures ∙ c.number-number.ensures.number) c.take_out-client.ensures.left c.take_out-client.ensures.ascending

pub returns-in-Some-clause-becomes : goal.returns-in-Some-clause-becomes
returns-in-Some-clause-becomes g c = λ client there.
    let told = g.L.Wire.Wire.told in
    upgrade_becomes (record { config = c.args.server.now.config; start = c.args.server.now.start; now = c.args.now; messages = g.L.Link.messages })
    c.args.self.now.connected c.take_out-client.new.self c.put_back.new.self c.args.self.now.leaving c.args.place client c.take_out-client.result c.live.result
    c.number-number.result c.args.target.now c.in-Http.exchange.stage (g.L.Link.told c.in-Http.exchange.link) c.in-Some.live.peer (told c.in-Some.live.wire)
    c.requires.place there c.take_out-client.ensures.client
    (ap (λ p. spoken g.L.Link.told told p) (sym c.in-Http.is) ∙ c.into_protocol.ensures)
    c.number-number.ensures.number c.live.ensures c.in-Some.ensures.upgraded c.take_out-client.ensures.left c.put_back.ensures

pub returns-in-Some-clause-may : goal.returns-in-Some-clause-may
returns-in-Some-clause-may g c =
    upgrade_may c.args.server.now.config c.args.self.now.connected c.take_out-client.new.self c.put_back.new.self c.args.place c.live.result c.number-number.result
    c.in-Some.live.peer (g.L.Wire.Wire.told c.in-Some.live.wire) (Upgrades c.args.target.now) c.requires.place c.live.ensures c.take_out-client.ensures.left c.put_back.ensures
    c.in-Some.ensures.over c.requires.may
