use Rattle.std.proofs.Common.{subst, inl}
use Rattle.std.specs.Prelude.{codes}
use Rattle.ch_base.specs.JsonNames.{Named}
use Rattle.ch_protocol.specs.UserDataText.{HasWatchlist}
use Rattle.ch_members.specs.Readings.{Gives}
use Rattle.ch_frames.specs.Ids.{IsWatchlist}
use Rattle.ch_members.proofs.Gives.{on_ok}
use Rattle.ch_frames.proofs.Watchlists.{gives_watchlist, many_no_watchlist}
use Rattle.ch_frames.proofs.user.watchlist_member.Goals as goal

pub watchlist_at-requires : goal.watchlist_at-requires
watchlist_at-requires c = let found = c.in-One.ensures c.requires.0 c.requires.1 c.requires.2 in (found.2.0, found.2.2)

pub returns-in-Absent : goal.returns-in-Absent
returns-in-Absent c = λ ms object.
    let found = c.in-Absent.ensures ms object.0 object.1 in
    inl (inl (subst (Named c.args.text.now (codes "watchlist") ms) found.2 found.1), c.new.ensures)

pub returns-in-One : goal.returns-in-One
returns-in-One c = λ ms object.
    let text = c.args.text.now in
    let found = c.in-One.ensures ms object.0 object.1 in
    let v = found.2.0 in
    on_ok (Gives (IsWatchlist text v)) (Gives (HasWatchlist text ms)) c.watchlist_at.result
    (gives_watchlist text ms v (subst (Named text (codes "watchlist") ms) found.2.1 found.1))
    (c.watchlist_at.ensures v found.2.2)

pub returns-in-Many : goal.returns-in-Many
returns-in-Many c = λ ms object ws k.
    let found = c.in-Many.ensures ms object.0 object.1 in
    many_no_watchlist c.args.text.now ms found.0 ws found.1 found.2 k
