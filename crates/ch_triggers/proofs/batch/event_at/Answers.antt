use Rattle.ch_members.specs.Readings.{Gives}
use Rattle.ch_members.proofs.Gives.{on_ok}
use Rattle.ch_requests.specs.Triggers.{IsEvent, HasChannel}
use Rattle.ch_triggers.specs.Bodies.{IsEventValue}
use Rattle.ch_triggers.proofs.EventsOf.{gives_value}
use Rattle.ch_triggers.proofs.BodiesOf.{node_of_object}
use Rattle.ch_triggers.proofs.batch.event_at.Goals as goal

pub single_event-requires : goal.single_event-requires
single_event-requires c =
    let text = c.args.text.now in
    let k = c.in-Some.ensures text c.requires.0 c.requires.1 in
    (k.1.0, k.1.1, node_of_object text c.args.doc.now c.args.node c.in-Some.object c.requires.0 k.1.0 k.1.1 k.0 k.1.2 c.requires.1)

pub returns-in-Some : goal.returns-in-Some
returns-in-Some c = λ v node.
    let text = c.args.text.now in
    let k = c.in-Some.ensures text v node in
    let at = node_of_object text c.args.doc.now c.args.node c.in-Some.object v k.1.0 k.1.1 k.0 k.1.2 node in
    on_ok (Gives (IsEvent HasChannel text k.1.0)) (Gives (IsEventValue text v)) c.single_event.result (gives_value text v k.1.0 k.1.1 k.1.2) (c.single_event.ensures k.1.0 (k.1.1, at))

pub returns-in-None : goal.returns-in-None
returns-in-None c = λ v node t k. c.in-None.ensures c.args.text.now v node k.0 k.1 k.2
