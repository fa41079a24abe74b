use Rattle.std.proofs.Common.{subst}
use Rattle.std.specs.Prelude.{codes}
use Rattle.ch_base.specs.JsonTree.{Members, object as object_form}
use Rattle.ch_base.specs.ObjectMembers.{HasSpelled}
use Rattle.ch_protocol.specs.ChannelData.{HasId}
use Rattle.ch_members.proofs.Gives.{gives_some, gives_none}
use Rattle.ch_members.proofs.SpelledValues.{same_object}
use Rattle.ch_frames.proofs.member.member_in.Goals as goal

pub id_member-requires : goal.id_member-requires
id_member-requires c =
    let r = c.requires.object in
    (r.members, r.span, c.top-top.ensures c.args.text.now (object_form r.members r.span) r.spelled r.tree)

pub returns-in_default : goal.returns-in_default
returns-in_default c = λ member told.
    let text = c.args.text.now in
    let r = c.requires.object in
    let node = c.top-top.ensures text (object_form r.members r.span) r.spelled r.tree in
    let same = same_object text told.members r.members told.spelled (r.span, r.spelled) in
    gives_none (HasId text r.members) c.in_ok-user_id.field-0 (c.in_ok-user_id.ensures r.members (r.span, node)) c.in_default.not-Some member.user_id
    (subst (λ (y : Members). HasId text y member.user_id) same told.id)

pub spelled_member-requires : goal.spelled_member-requires
spelled_member-requires c =
    let r = c.requires.object in
    (r.members, r.span, c.top-top.ensures c.args.text.now (object_form r.members r.span) r.spelled r.tree)

pub returns-in_default-2 : goal.returns-in_default-2
returns-in_default-2 c = λ member told.
    let text = c.args.text.now in
    let r = c.requires.object in
    let node = c.top-top.ensures text (object_form r.members r.span) r.spelled r.tree in
    let same = same_object text told.members r.members told.spelled (r.span, r.spelled) in
    gives_none (HasSpelled text r.members (codes "user_info")) c.in_ok-info.field-0 (c.in_ok-info.ensures r.members (r.span, node)) c.in_default-2.not-Some member.info
    (subst (λ (y : Members). HasSpelled text y (codes "user_info") member.info) same told.info)

pub returns : goal.returns
returns c =
    let text = c.args.text.now in
    let r = c.requires.object in
    let node = c.top-top.ensures text (object_form r.members r.span) r.spelled r.tree in
    record {
      short = c.requires.short;
      members = r.members;
      spelled = (r.span, r.spelled);
      distinct = r.distinct;
      id = gives_some (HasId text r.members) c.in_ok-user_id.field-0 c.in-Some.user_id (c.in_ok-user_id.ensures r.members (r.span, node)) c.in-Some.is;
      info = gives_some (HasSpelled text r.members (codes "user_info")) c.in_ok-info.field-0 c.in-Some-2.info (c.in_ok-info.ensures r.members (r.span, node)) c.in-Some-2.is;
    }
