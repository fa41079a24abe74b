use Rattle.ch_members.specs.Readings.{Gives}
use Rattle.ch_members.proofs.Gives.{on_ok}
use Rattle.ch_requests.specs.Triggers.{IsEventList}
use Rattle.ch_triggers.specs.Bodies.{HasBatch}
use Rattle.ch_triggers.proofs.BodiesOf.{gives_batch}
use Rattle.ch_triggers.proofs.batch.batch_member.Goals as goal

pub event_list-requires : goal.event_list-requires
event_list-requires c = let list = c.in-Some.ensures c.requires.0 (c.requires.1, c.requires.2) in (list.0, list.2)

pub returns-in-Some : goal.returns-in-Some
returns-in-Some c = λ ms object.
    let text = c.args.text.now in
    let list = c.in-Some.ensures ms object in
    on_ok (Gives (IsEventList text list.0)) (Gives (HasBatch text ms)) c.event_list.result (gives_batch text ms list.0 list.1.0 list.1.1) (c.event_list.ensures list.0 list.2)

pub returns-in-None : goal.returns-in-None
returns-in-None c = λ ms object ts k. c.in-None.ensures ms object k.0 (k.1, k.2)
