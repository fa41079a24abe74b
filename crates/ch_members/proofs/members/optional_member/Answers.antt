use Rattle.std.proofs.Common.{subst, inl}
use Rattle.ch_base.specs.JsonNames.{Named}
use Rattle.ch_base.specs.ObjectMembers.{HasOptional}
use Rattle.ch_members.specs.Readings.{Gives, IsOptionalOf}
use Rattle.ch_members.proofs.Gives.{on_ok}
use Rattle.ch_members.proofs.MembersOfName.{gives_optional, many_no_optional}
use Rattle.ch_members.proofs.members.optional_member.Goals as goal

pub optional_at-requires : goal.optional_at-requires
optional_at-requires c = let found = c.in-One.ensures c.requires.0 c.requires.1 c.requires.2 in (found.2.0, found.2.2)

pub returns-in-Absent : goal.returns-in-Absent
returns-in-Absent c = λ ms object.
    let found = c.in-Absent.ensures ms object.0 object.1 in
    inl (subst (Named c.args.text.now c.args.name.now ms) found.2 found.1)

pub returns-in-One : goal.returns-in-One
returns-in-One c = λ ms object.
    let text = c.args.text.now in
    let name = c.args.name.now in
    let found = c.in-One.ensures ms object.0 object.1 in
    let v = found.2.0 in
    on_ok (Gives (IsOptionalOf text v)) (Gives (HasOptional text ms name)) c.optional_at.result
    (gives_optional text name ms v (subst (Named text name ms) found.2.1 found.1))
    (c.optional_at.ensures v found.2.2)

pub returns-in-Many : goal.returns-in-Many
returns-in-Many c = λ ms object x k.
    let found = c.in-Many.ensures ms object.0 object.1 in
    many_no_optional c.args.text.now c.args.name.now ms found.0 found.1 found.2 x k
