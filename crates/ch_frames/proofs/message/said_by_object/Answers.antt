use Rattle.std.proofs.Common.{refl, subst, inl, inr}
use Rattle.std.specs.Prelude.{codes}
use Rattle.ch_base.specs.JsonTree.{Members, object as object_form}
use Rattle.ch_base.specs.ObjectMembers.{HasString}
use Rattle.ch_protocol.specs.ClientMessages.{SaysEvent, SaysObject, event_of}
use Rattle.ch_members.specs.Readings.{Gives}
use Rattle.ch_members.proofs.Gives.{gives_some}
use Rattle.ch_members.proofs.SpelledValues.{same_object}
use Rattle.ch_frames.proofs.VerdictsOf.{tells_as}
use Rattle.ch_frames.proofs.message.said_by_object.Goals as goal

pub string_member-requires : goal.string_member-requires
string_member-requires c =
    let r = c.requires in
    (r.members, r.span, c.top-top.ensures c.args.text.now (object_form r.members r.span) r.spelled r.tree)

pub said_by_event-requires : goal.said_by_event-requires
said_by_event-requires c =
    let r = c.requires in
    (r.members, r.span, c.top-top.ensures c.args.text.now (object_form r.members r.span) r.spelled r.tree)

pub returns-in-None : goal.returns-in-None
returns-in-None c =
    let text = c.args.text.now in
    let r = c.requires in
    let node = c.top-top.ensures text (object_form r.members r.span) r.spelled r.tree in
    let none = subst (Gives (HasString text r.members (codes "event"))) c.in-None.is (c.in_ok-string_member.ensures r.members (r.span, node)) in
    inr (
      λ ms name ev. none name (subst (λ (y : Members). HasString text y (codes "event") name) (same_object text ms r.members ev.spelled (r.span, r.spelled)) ev.event),
      refl,
    )

pub returns-in-Some : goal.returns-in-Some
returns-in-Some c =
    let text = c.args.text.now in
    let r = c.requires in
    let name = c.in-Some.name in
    let node = c.top-top.ensures text (object_form r.members r.span) r.spelled r.tree in
    let event = gives_some (HasString text r.members (codes "event")) c.in_ok-string_member.field-0 name (c.in_ok-string_member.ensures r.members (r.span, node)) c.in-Some.is in
    tells_as (SaysEvent (event_of name) name text r.members) (SaysObject text) c.said_by_event.result
    (λ v h. inl (r.members, name, record { spelled = (r.span, r.spelled); distinct = r.distinct; event = event }, h))
    (c.said_by_event.ensures r.members (r.span, node))
