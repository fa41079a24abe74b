use Rattle.std.proofs.Common.{refl}
use Rattle.std.specs.Prelude.{codes}
use Rattle.ch_base.specs.ObjectMembers.{HasOptional}
use Rattle.ch_members.proofs.Gives.{gives_some, gives_none}
use Rattle.ch_triggers.specs.Contents.{HasContent}
use Rattle.ch_triggers.specs.Bodies.{HasEventName, HasSocketId}
use Rattle.ch_triggers.proofs.EventsOf.{content_from}
use Rattle.ch_triggers.proofs.event.event_on.Goals as goal

pub returns-in_default : goal.returns-in_default
returns-in_default c = λ ms object distinct t k.
    gives_none (HasEventName c.args.text.now ms) c.in_ok-event.field-0 (c.in_ok-event.ensures ms object) c.in_default.not-Some t.event (k.name, k.good_name)

pub returns-in_default-2 : goal.returns-in_default-2
returns-in_default-2 c = λ ms object distinct t k.
    gives_none (HasContent c.args.text.now ms) c.in_ok-content.field-0 (c.in_ok-content.ensures ms object) c.in_default-2.not-Some (content_from t) k.content

pub returns-in_default-3 : goal.returns-in_default-3
returns-in_default-3 c = λ ms object distinct t k.
    gives_none (HasSocketId c.args.text.now ms) c.in_ok-socket_id.field-0 (c.in_ok-socket_id.ensures ms object) c.in_default-3.not-Some t.socket_id (k.socket, k.good_socket)

pub returns-in_default-4 : goal.returns-in_default-4
returns-in_default-4 c = λ ms object distinct t k.
    gives_none (HasOptional c.args.text.now ms (codes "info")) c.in_ok-info.field-0 (c.in_ok-info.ensures ms object) c.in_default-4.not-Some t.info k.asked

pub returns : goal.returns
returns c = λ ms object distinct.
    let text = c.args.text.now in
    let name = gives_some (HasEventName text ms) c.in_ok-event.field-0 c.in-Some.event (c.in_ok-event.ensures ms object) c.in-Some.is in
    let socket = gives_some (HasSocketId text ms) c.in_ok-socket_id.field-0 c.in-Some-3.socket_id (c.in_ok-socket_id.ensures ms object) c.in-Some-3.is in
    record {
      distinct = distinct;
      name = name.0;
      good_name = name.1;
      content = gives_some (HasContent text ms) c.in_ok-content.field-0 c.in-Some-2.content (c.in_ok-content.ensures ms object) c.in-Some-2.is;
      named = refl;
      socket = socket.0;
      good_socket = socket.1;
      asked = gives_some (HasOptional text ms (codes "info")) c.in_ok-info.field-0 c.in-Some-4.info (c.in_ok-info.ensures ms object) c.in-Some-4.is;
    }
