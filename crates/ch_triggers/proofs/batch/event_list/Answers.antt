use Rattle.std.proofs.Common.{◌≤◌, length, arith}
use Rattle.ch_base.specs.JsonParts.{items_of}
use Rattle.ch_members.specs.Readings.{Gives}
use Rattle.ch_members.proofs.Gives.{on_ok}
use Rattle.ch_requests.specs.Triggers.{AreEvents, IsEventList}
use Rattle.ch_triggers.proofs.EventsOf.{gives_list}
use Rattle.ch_triggers.proofs.batch.event_list.Goals as goal

pub returns : goal.returns
returns c = λ vs is.
    let text = c.args.text.now in
    let some : 1 ≤ length (items_of vs) = omega (arith, is.count, c.if-array-eq0.false) in
    let few : length (items_of vs) ≤ 10 = omega (arith, is.count, c.if-array-gt-MOST_EVENTS.false) in
    on_ok (Gives (AreEvents text (items_of vs))) (Gives (IsEventList text vs)) c.events_of.result (gives_list text vs some few) (c.events_of.ensures vs is)
