use Rattle.std.proofs.Common.{refl, subst}
use Rattle.ch_base.specs.JsonNames.{Named}
use Rattle.ch_members.proofs.MembersOfName.{not_absent}
use Rattle.ch_members.proofs.members.is_absent.Goals as goal

pub returns-in-Absent : goal.returns-in-Absent
returns-in-Absent c = λ ms object.
    let found = c.in-Absent.ensures ms object.0 object.1 in
    (λ yes. subst (Named c.args.text.now c.args.name.now ms) found.2 found.1, λ none. refl)

pub returns-in_default : goal.returns-in_default
returns-in_default c = λ ms object.
    let found = c.find.ensures ms object.0 object.1 in
    (λ yes. absurd (cc), λ none. absurd (not_absent c.args.text.now c.args.name.now c.args.doc.now ms found.0 c.find.result found.1 found.2 c.in_default.not-Absent none))
