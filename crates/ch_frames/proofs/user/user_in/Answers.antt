use Rattle.std.proofs.Common.{subst}
use Rattle.std.specs.Prelude.{codes}
use Rattle.ch_base.specs.JsonTree.{Members, object as object_form}
use Rattle.ch_protocol.specs.UserDataText.{HasWatchlist}
use Rattle.ch_frames.specs.Ids.{HasGoodId}
use Rattle.ch_members.proofs.Gives.{gives_some, gives_none}
use Rattle.ch_members.proofs.SpelledValues.{same_object}
use Rattle.ch_frames.proofs.user.user_in.Goals as goal

pub id_member-requires : goal.id_member-requires
id_member-requires c =
    let r = c.requires in
    (r.members, r.span, c.top-top.ensures c.args.text.now (object_form r.members r.span) r.spelled r.tree)

pub returns-in_default : goal.returns-in_default
returns-in_default c = λ user told.
    let text = c.args.text.now in
    let r = c.requires in
    let node = c.top-top.ensures text (object_form r.members r.span) r.spelled r.tree in
    let same = same_object text told.members r.members told.spelled (r.span, r.spelled) in
    gives_none (HasGoodId text r.members (codes "id")) c.in_ok-id.field-0 (c.in_ok-id.ensures r.members (r.span, node)) c.in_default.not-Some user.id
    (subst (λ (y : Members). HasGoodId text y (codes "id") user.id) same (told.id, told.good))

pub watchlist_member-requires : goal.watchlist_member-requires
watchlist_member-requires c =
    let r = c.requires in
    (r.members, r.span, c.top-top.ensures c.args.text.now (object_form r.members r.span) r.spelled r.tree)

pub returns-in_default-2 : goal.returns-in_default-2
returns-in_default-2 c = λ user told.
    let text = c.args.text.now in
    let r = c.requires in
    let node = c.top-top.ensures text (object_form r.members r.span) r.spelled r.tree in
    let same = same_object text told.members r.members told.spelled (r.span, r.spelled) in
    gives_none (HasWatchlist text r.members) c.in_ok-watchlist.field-0 (c.in_ok-watchlist.ensures r.members (r.span, node)) c.in_default-2.not-Some user.watchlist
    (subst (λ (y : Members). HasWatchlist text y user.watchlist) same told.watchlist)

pub returns : goal.returns
returns c =
    let text = c.args.text.now in
    let r = c.requires in
    let node = c.top-top.ensures text (object_form r.members r.span) r.spelled r.tree in
    let id = gives_some (HasGoodId text r.members (codes "id")) c.in_ok-id.field-0 c.in-Some.id (c.in_ok-id.ensures r.members (r.span, node)) c.in-Some.is in
    record {
      members = r.members;
      spelled = (r.span, r.spelled);
      distinct = r.distinct;
      id = id.0;
      good = id.1;
      watchlist = gives_some (HasWatchlist text r.members) c.in_ok-watchlist.field-0 c.in-Some-2.watchlist (c.in_ok-watchlist.ensures r.members (r.span, node)) c.in-Some-2.is;
    }
