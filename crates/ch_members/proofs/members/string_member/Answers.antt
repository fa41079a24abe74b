use Rattle.std.proofs.Common.{subst}
use Rattle.ch_base.specs.JsonNames.{Named}
use Rattle.ch_base.specs.ObjectMembers.{IsStringOf, HasString}
use Rattle.ch_members.specs.Readings.{Gives}
use Rattle.ch_members.proofs.Gives.{on_ok}
use Rattle.ch_members.proofs.MembersOfName.{gives_string, not_one}
use Rattle.ch_members.proofs.members.string_member.Goals as goal

pub string_at-requires : goal.string_at-requires
string_at-requires c = let found = c.in-One.ensures c.requires.0 c.requires.1 c.requires.2 in (found.2.0, found.2.2)

pub returns-in-One : goal.returns-in-One
returns-in-One c = λ ms object.
    let text = c.args.text.now in
    let name = c.args.name.now in
    let found = c.in-One.ensures ms object.0 object.1 in
    let v = found.2.0 in
    on_ok (Gives (IsStringOf text v)) (Gives (HasString text ms name)) c.string_at.result
    (gives_string text name ms v (subst (Named text name ms) found.2.1 found.1))
    (c.string_at.ensures v found.2.2)

pub returns-in_default : goal.returns-in_default
returns-in_default c = λ ms object x k.
    let found = c.find.ensures ms object.0 object.1 in
    not_one c.args.text.now c.args.name.now c.args.doc.now ms found.0 c.find.result _ found.1 found.2 c.in_default.not-One k.1
