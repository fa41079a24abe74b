use Rattle.ch_base.specs.JsonTree.{object as object_form}
use Rattle.ch_base.specs.declared.limits.TheConstants.{MAX_DEPTH}
use Rattle.ch_json.proofs.Fronts.{one_tree}
use Rattle.ch_members.specs.Readings.{Gives}
use Rattle.ch_members.proofs.Gives.{on_ok}
use Rattle.ch_requests.specs.Triggers.{IsEvent, HasEither, TellsEvent}
use Rattle.ch_triggers.proofs.BodiesOf.{node_of_object, object_text, tells_event}
use Rattle.ch_triggers.proofs.reading.event_of.Goals as goal

pub object_at-requires : goal.object_at-requires
object_at-requires c = (c.args.text.now, c.requires.0, c.top.ensures c.args.text.now c.requires.0 c.requires.1 c.requires.2)

pub either_event-requires : goal.either_event-requires
either_event-requires c =
    let text = c.args.text.now in
    let v = c.requires.0 in
    let node = c.top.ensures text v c.requires.1 c.requires.2 in
    let k = c.in-Some.ensures text v node in
    (k.1.0, k.1.1, node_of_object text c.args.doc.now c.top.result c.in-Some.object v k.1.0 k.1.1 k.0 k.1.2 node)

pub returns-in-Some : goal.returns-in-Some
returns-in-Some c =
    let text = c.args.text.now in
    let v = c.requires.0 in
    let node = c.top.ensures text v c.requires.1 c.requires.2 in
    let k = c.in-Some.ensures text v node in
    let ms = k.1.0 in
    let at = node_of_object text c.args.doc.now c.top.result c.in-Some.object v ms k.1.1 k.0 k.1.2 node in
    let spelled = object_text text v ms k.1.1 k.1.2 c.requires.1 in
    on_ok (Gives (IsEvent HasEither text ms)) (Gives (TellsEvent text)) c.either_event.result (tells_event text ms c.utf8.text spelled) (c.either_event.ensures ms (k.1.1, at))

pub returns-in-None : goal.returns-in-None
returns-in-None c = λ t k.
    let text = c.args.text.now in
    let v = c.requires.0 in
    let node = c.top.ensures text v c.requires.1 c.requires.2 in
    c.in-None.ensures text v node k.1.0 k.1.1.0 (one_tree MAX_DEPTH text v (object_form k.1.0 k.1.1.0) c.requires.1 k.1.1.1)
