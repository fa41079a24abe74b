use Rattle.std.proofs.Common.{subst, sym, ap, ◌∙◌, inl, inr}
use Rattle.ch_base.specs.JsonParts.{part}
use Rattle.ch_base.specs.JsonNames.{Named}
use Rattle.ch_members.proofs.MembersOfName.{many_no_spelling}
use Rattle.ch_members.proofs.members.spelled_member.Goals as goal

pub span-requires : goal.span-requires
span-requires c =
    let found = c.in-One.ensures c.requires.0 c.requires.1 c.requires.2 in (c.args.text.now, found.2.0, found.2.2)

pub part-requires : goal.part-requires
part-requires c =
    let found = c.in-One.ensures c.requires.0 c.requires.1 c.requires.2 in
    (found.2.0, found.2.2.spelled, sym (c.span.ensures c.args.text.now found.2.0 found.2.2))

pub returns-in_ok-spelling-in-Absent : goal.returns-in_ok-spelling-in-Absent
returns-in_ok-spelling-in-Absent c = λ ms object.
    let found = c.in-Absent.ensures ms object.0 object.1 in
    inl (subst (Named c.args.text.now c.args.name.now ms) found.2 found.1, c.in_ok-spelling-in-Absent.ensures)

pub returns-in_ok-spelling-in-One : goal.returns-in_ok-spelling-in-One
returns-in_ok-spelling-in-One c = λ ms object.
    let text = c.args.text.now in
    let found = c.in-One.ensures ms object.0 object.1 in
    inr (
      found.2.0,
      subst (Named text c.args.name.now ms) found.2.1 found.1,
      c.in_ok-spelling-in-One.ensures ∙ c.part.ensures ∙ ap (part text) (c.span.ensures text found.2.0 found.2.2),
    )

pub returns-in-Many : goal.returns-in-Many
returns-in-Many c = λ ms object x k.
    let found = c.in-Many.ensures ms object.0 object.1 in
    many_no_spelling c.args.text.now c.args.name.now ms found.0 found.1 found.2 x k
