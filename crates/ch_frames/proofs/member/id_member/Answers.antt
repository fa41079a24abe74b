use Rattle.std.proofs.Common.{subst}
use Rattle.std.specs.Prelude.{codes}
use Rattle.ch_base.specs.JsonNames.{Named}
use Rattle.ch_protocol.specs.ChannelData.{IsIdOf, HasId}
use Rattle.ch_members.specs.Readings.{Gives}
use Rattle.ch_members.proofs.Gives.{on_ok}
use Rattle.ch_members.proofs.MembersOfName.{not_one}
use Rattle.ch_frames.proofs.IdsOf.{gives_id}
use Rattle.ch_frames.proofs.member.id_member.Goals as goal

pub id_at-requires : goal.id_at-requires
id_at-requires c = let found = c.in-One.ensures c.requires.0 c.requires.1 c.requires.2 in (found.2.0, found.2.2)

pub returns-in-One : goal.returns-in-One
returns-in-One c = λ ms object.
    let text = c.args.text.now in
    let found = c.in-One.ensures ms object.0 object.1 in
    let v = found.2.0 in
    on_ok (Gives (IsIdOf text v)) (Gives (HasId text ms)) c.id_at.result
    (gives_id text ms v (subst (Named text (codes "user_id") ms) found.2.1 found.1))
    (c.id_at.ensures v found.2.2)

pub returns-in_default : goal.returns-in_default
returns-in_default c = λ ms object x k.
    let found = c.find.ensures ms object.0 object.1 in
    not_one c.args.text.now (codes "user_id") c.args.doc.now ms found.0 c.find.result _ found.1 found.2 c.in_default.not-One k.1
