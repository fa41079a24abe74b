use Rattle.std.specs.Prelude.{codes}
use Rattle.ch_base.specs.ObjectMembers.{HasString}
use Rattle.ch_members.proofs.Gives.{gives_some, gives_none}
use Rattle.ch_frames.proofs.ShapesOf.{reads_none, other_string, no_unsubscribe}
use Rattle.ch_frames.proofs.shapes.unsubscribe.Goals as goal

pub returns-in_default : goal.returns-in_default
returns-in_default c = λ ms object.
    let text = c.args.text.now in
    no_unsubscribe text ms
    (λ inner channel given has. reads_none text c.args.doc.now ms c.object_member.result (c.object_member.ensures ms object) c.in_default.not-Some inner given)

pub string_member-requires : goal.string_member-requires
string_member-requires c =
    let r = c.in-Some.ensures c.requires.0 (c.requires.1, c.requires.2) in (r.0, r.2.0, r.2.1)

pub returns-in_default-2 : goal.returns-in_default-2
returns-in_default-2 c = λ ms object.
    let text = c.args.text.now in
    let r = c.in-Some.ensures ms object in
    let none = gives_none (HasString text r.0 (codes "channel")) c.in_ok-channel.field-0 (c.in_ok-channel.ensures r.0 r.2) c.in_default-2.not-Some in
    no_unsubscribe text ms (λ inner channel given has. other_string text (codes "channel") ms r.0 inner r.1 given none channel has)

pub returns : goal.returns
returns c = λ ms object.
    let r = c.in-Some.ensures ms object in
    (r.0, r.1, gives_some (HasString c.args.text.now r.0 (codes "channel")) c.in_ok-channel.field-0 c.in-Some-2.channel (c.in_ok-channel.ensures r.0 r.2) c.in-Some-2.is)
