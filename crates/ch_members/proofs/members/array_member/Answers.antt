use Rattle.std.proofs.Common.{subst}
use Rattle.ch_base.specs.JsonNames.{Named}
use Rattle.ch_members.proofs.MembersOfName.{reads_array, not_one}
use Rattle.ch_members.proofs.members.array_member.Goals as goal

pub array_at-requires : goal.array_at-requires
array_at-requires c =
    let found = c.in-One.ensures c.requires.0 c.requires.1 c.requires.2 in (c.args.text.now, found.2.0, found.2.2)

pub returns-in-One : goal.returns-in-One
returns-in-One c = λ ms object.
    let text = c.args.text.now in
    let name = c.args.name.now in
    let found = c.in-One.ensures ms object.0 object.1 in
    reads_array text name c.args.doc.now ms found.2.0 (subst (Named text name ms) found.2.1 found.1) c.array_at.result
    (c.array_at.ensures text found.2.0 found.2.2)

pub returns-in_default : goal.returns-in_default
returns-in_default c = λ ms object vs k.
    let found = c.find.ensures ms object.0 object.1 in
    not_one c.args.text.now c.args.name.now c.args.doc.now ms found.0 c.find.result _ found.1 found.2 c.in_default.not-One k.1
