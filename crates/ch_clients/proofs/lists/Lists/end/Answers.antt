use Rattle.std.proofs.Common.{refl}
use Rattle.ch_clients.proofs.Fates.{end_becomes, end_over, end_may}
use Rattle.ch_clients.specs.Spoken.{spoken}
use Rattle.ch_clients.specs.declared.client.Step.TheVariants.{Ends}
use Rattle.ch_clients.proofs.lists.Lists.end.Goals as goal

pub returns-clause-becomes : goal.returns-clause-becomes
returns-clause-becomes g c = λ client there.
    let e = c.leave.ensures in
    let so = end_becomes c.args.self.now.connected c.take_out-client.new.self c.args.self.now.leaving c.leave.new.leaving c.args.place client c.take_out-client.result
    (spoken g.L.Link.told g.L.Wire.Wire.told c.into_protocol.result) e.0 c.requires.place there c.take_out-client.ensures.client c.into_protocol.ensures
    c.take_out-client.ensures.left e.1 e.2 e.3 in
    (e.0, refl, so.0, so.1)

pub returns-clause-over : goal.returns-clause-over
returns-clause-over g c =
    let e = c.leave.ensures in
    end_over c.args.server.now.config c.args.self.now.connected c.args.self.now.leaving c.leave.new.leaving c.args.place c.take_out-client.result
    (spoken g.L.Link.told g.L.Wire.Wire.told c.into_protocol.result) e.0 c.take_out-client.ensures.client c.into_protocol.ensures e.1 e.3 c.requires.may c.requires.over

pub returns-clause-may : goal.returns-clause-may
returns-clause-may g c = end_may c.args.server.now.config c.args.self.now.connected c.take_out-client.new.self c.args.place Ends c.take_out-client.ensures.left c.requires.may
