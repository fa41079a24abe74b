use Rattle.std.proofs.Common.{◌≡◌, true, refl, subst}
use Rattle.ch_base.specs.JsonTree.{object as object_form}
use Rattle.ch_members.specs.Readings.{Gives}
use Rattle.ch_members.proofs.Gives.{gives_some, on_ok}
use Rattle.ch_requests.specs.Triggers.{HasEither, IsEvent}
use Rattle.ch_triggers.specs.Bodies.{AreThese}
use Rattle.ch_triggers.proofs.EventsOf.{plain_distinct, gives_event}
use Rattle.ch_triggers.proofs.event.either_event.Goals as goal

pub returns-then-not-branch : goal.returns-then-not-branch
returns-then-not-branch c = λ ms object t k.
    let plain : c.in_ok-is_plain_object.field-0 ≡ true = (c.in_ok-is_plain_object.ensures (object_form ms object.0) object.1).1 (ms, object.0, refl, k.distinct) in
    absurd (cc (plain, c.if-not-branch.true))

pub is_plain_object-requires : goal.is_plain_object-requires
is_plain_object-requires c = (object_form c.requires.0 c.requires.1, c.requires.2)

pub returns-in-Some : goal.returns-in-Some
returns-in-Some c = λ ms object.
    let text = c.args.text.now in
    let channels = c.in-Some.channels in
    let distinct = plain_distinct text ms object.0 ((c.in_ok-is_plain_object.ensures (object_form ms object.0) object.1).0 c.if-not-branch.false) in
    let names = gives_some (HasEither text ms) c.in_ok-channels.field-0 channels (c.in_ok-channels.ensures ms object) c.in-Some.is in
    on_ok (Gives (IsEvent (AreThese channels) text ms)) (Gives (IsEvent HasEither text ms)) c.event_on.result (gives_event HasEither text ms channels names) (c.event_on.ensures ms object distinct)

pub returns-in-None : goal.returns-in-None
returns-in-None c = λ ms object t k.
    let none = subst (Gives (HasEither c.args.text.now ms)) c.in-None.is (c.in_ok-channels.ensures ms object) in
    none t.channels k.named
