use Rattle.std.proofs.Common.{◌+◌, ◌<◌, ◌≤◌, List, length, take, sym, subst, arith}
use Rattle.std.proofs.lemmas.List.{take_all}
use Rattle.ch_base.specs.JsonTree.{Tree}
use Rattle.ch_base.specs.JsonParts.{items_of}
use Rattle.ch_json.proofs.Lists.{inside_some}
use Rattle.ch_members.proofs.Gives.{gives_some, gives_none}
use Rattle.ch_requests.specs.Triggers.{AreEvents}
use Rattle.ch_triggers.specs.Bodies.{IsEventValue}
use Rattle.ch_triggers.proofs.EventsOf.{events_more, event_at_place}
use Rattle.ch_triggers.proofs.batch.events_of.Goals as goal

pub item-requires : goal.item-requires
item-requires c =
    let vs = c.requires.0 in
    let is = c.requires.1 in
    (c.args.text.now, vs, is, omega (arith, is.count, c.loop-i-test.true))

pub event_at-requires : goal.event_at-requires
event_at-requires c =
    let vs = c.requires.0 in
    let is = c.requires.1 in
    let inside : c.loop-i.i < length (items_of vs) = omega (arith, is.count, c.loop-i-test.true) in
    let v = inside_some (items_of vs) c.loop-i.i inside in
    (v.0, c.item.ensures c.args.text.now vs v.0 is v.1)

pub returns-in_default : goal.returns-in_default
returns-in_default c = λ vs is ts are.
    let text = c.args.text.now in
    let i = c.loop-i.i in
    let inside : i < length (items_of vs) = omega (arith, is.count, c.loop-i-test.true) in
    let v = inside_some (items_of vs) i inside in
    let at = c.item.ensures text vs v.0 is v.1 in
    let t = event_at_place text (items_of vs) i v.0 ts v.1 are in
    gives_none (IsEventValue text v.0) c.in_ok-event.field-0 (c.in_ok-event.ensures v.0 at) c.in_default.not-Some t.0 t.1

pub loop-i-preserved : goal.loop-i-preserved
loop-i-preserved c = λ vs is.
    let text = c.args.text.now in
    let i = c.loop-i.i in
    let inside : i < length (items_of vs) = omega (arith, is.count, c.loop-i-test.true) in
    let v = inside_some (items_of vs) i inside in
    let at = c.item.ensures text vs v.0 is v.1 in
    let t = gives_some (IsEventValue text v.0) c.in_ok-event.field-0 c.in-Some.event (c.in_ok-event.ensures v.0 at) c.in-Some.is in
    subst (AreEvents text (take (i + 1) (items_of vs))) (sym c.in_ok-push.ensures.ok)
    (events_more text (items_of vs) i v.0 c.in-Some.event c.loop-i.events v.1 t (c.loop-i.invariant vs is))

pub returns : goal.returns
returns c = λ vs is.
    let past : length (items_of vs) ≤ c.loop-i.i = omega (arith, is.count, c.loop-i-test.false) in
    subst (λ (y : List Tree). AreEvents c.args.text.now y c.loop-i.events) (take_all c.loop-i.i (items_of vs) past) (c.loop-i.invariant vs is)
