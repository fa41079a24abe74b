use Rattle.std.specs.Prelude.{codes}
use Rattle.ch_base.specs.ObjectMembers.{HasString}
use Rattle.ch_members.proofs.Gives.{gives_some, gives_none}
use Rattle.ch_frames.proofs.ShapesOf.{reads_none, other_string, no_sign_in}
use Rattle.ch_frames.proofs.shapes.sign_in.Goals as goal

pub returns-in_default : goal.returns-in_default
returns-in_default c = λ ms object.
    let text = c.args.text.now in
    no_sign_in text ms
    (λ inner auth user given ha hu. reads_none text c.args.doc.now ms c.object_member.result (c.object_member.ensures ms object) c.in_default.not-Some inner given)

pub string_member-requires : goal.string_member-requires
string_member-requires c =
    let r = c.in-Some.ensures c.requires.0 (c.requires.1, c.requires.2) in (r.0, r.2.0, r.2.1)

pub returns-in_default-2 : goal.returns-in_default-2
returns-in_default-2 c = λ ms object.
    let text = c.args.text.now in
    let r = c.in-Some.ensures ms object in
    let none = gives_none (HasString text r.0 (codes "auth")) c.in_ok-auth.field-0 (c.in_ok-auth.ensures r.0 r.2) c.in_default-2.not-Some in
    no_sign_in text ms (λ inner auth user given ha hu. other_string text (codes "auth") ms r.0 inner r.1 given none auth ha)

pub string_member-requires-2 : goal.string_member-requires-2
string_member-requires-2 c =
    let r = c.in-Some.ensures c.requires.0 (c.requires.1, c.requires.2) in (r.0, r.2.0, r.2.1)

pub returns-in_default-3 : goal.returns-in_default-3
returns-in_default-3 c = λ ms object.
    let text = c.args.text.now in
    let r = c.in-Some.ensures ms object in
    let none = gives_none (HasString text r.0 (codes "user_data")) c.in_ok-user_data.field-0 (c.in_ok-user_data.ensures r.0 r.2) c.in_default-3.not-Some in
    no_sign_in text ms (λ inner auth user given ha hu. other_string text (codes "user_data") ms r.0 inner r.1 given none user hu)

pub returns : goal.returns
returns c = λ ms object.
    let text = c.args.text.now in
    let r = c.in-Some.ensures ms object in (
      r.0,
      r.1,
      gives_some (HasString text r.0 (codes "auth")) c.in_ok-auth.field-0 c.in-Some-2.auth (c.in_ok-auth.ensures r.0 r.2) c.in-Some-2.is,
      gives_some (HasString text r.0 (codes "user_data")) c.in_ok-user_data.field-0 c.in-Some-3.user_data (c.in_ok-user_data.ensures r.0 r.2) c.in-Some-3.is,
    )
