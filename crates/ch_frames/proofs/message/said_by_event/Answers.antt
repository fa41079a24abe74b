use Rattle.std.proofs.Common.{◌∙◌, ap}
use Rattle.ch_protocol.specs.ClientMessages.{SaysEvent, SubscribeShape, UnsubscribeShape, SignInShape, SayShape, event_of}
use Rattle.ch_protocol.specs.ClientMessages as event
use Rattle.ch_frames.proofs.VerdictsOf.{tells_judged, tells_event}
use Rattle.ch_frames.proofs.message.said_by_event.Goals as goal

pub returns-in_ok-subscribe-in-Subscribe : goal.returns-in_ok-subscribe-in-Subscribe
returns-in_ok-subscribe-in-Subscribe c = λ ms object.
    let text = c.args.text.now in
    let name = c.args.name in
    let o = c.in_ok-subscribe-in-Subscribe.field-0 in
    tells_event (λ ev. SaysEvent ev name text ms) event.subscribe (event_of name) o c.judged.result (c.in-Subscribe.ensures ∙ ap event_of c.as_str.ensures.same) c.judged.ensures
    (tells_judged (SubscribeShape text ms) o (c.in_ok-subscribe-in-Subscribe.ensures ms object))

pub returns-in_ok-unsubscribe-in-Unsubscribe : goal.returns-in_ok-unsubscribe-in-Unsubscribe
returns-in_ok-unsubscribe-in-Unsubscribe c = λ ms object.
    let text = c.args.text.now in
    let name = c.args.name in
    let o = c.in_ok-unsubscribe-in-Unsubscribe.field-0 in
    tells_event (λ ev. SaysEvent ev name text ms) event.unsubscribe (event_of name) o c.judged-in-Unsubscribe.result (c.in-Unsubscribe.ensures ∙ ap event_of c.as_str.ensures.same) c.judged-in-Unsubscribe.ensures
    (tells_judged (UnsubscribeShape text ms) o (c.in_ok-unsubscribe-in-Unsubscribe.ensures ms object))

pub returns-in_ok-sign_in-in-SignIn : goal.returns-in_ok-sign_in-in-SignIn
returns-in_ok-sign_in-in-SignIn c = λ ms object.
    let text = c.args.text.now in
    let name = c.args.name in
    let o = c.in_ok-sign_in-in-SignIn.field-0 in
    tells_event (λ ev. SaysEvent ev name text ms) event.sign_in (event_of name) o c.judged-in-SignIn.result (c.in-SignIn.ensures ∙ ap event_of c.as_str.ensures.same) c.judged-in-SignIn.ensures
    (tells_judged (SignInShape text ms) o (c.in_ok-sign_in-in-SignIn.ensures ms object))

pub returns-in_ok-say-in-Client : goal.returns-in_ok-say-in-Client
returns-in_ok-say-in-Client c = λ ms object.
    let text = c.args.text.now in
    let name = c.args.name in
    let o = c.in_ok-say-in-Client.field-0 in
    tells_event (λ ev. SaysEvent ev name text ms) event.client (event_of name) o c.judged-in-Client.result (c.in-Client.ensures ∙ ap event_of c.as_str.ensures.same) c.judged-in-Client.ensures
    (tells_judged (SayShape name text ms) o (c.in_ok-say-in-Client.ensures ms object))
