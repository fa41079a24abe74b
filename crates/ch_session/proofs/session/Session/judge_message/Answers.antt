use Rattle.std.proofs.Common.{◌≡◌, sym, subst}
use Rattle.std.specs.Prelude.{Ok, IfOk}
use Rattle.ch_protocol.specs.Sessions.{judged_as}
use Rattle.ch_protocol.specs.declared.client_message.ClientMessage.{ClientMessage}
use Rattle.ch_session.specs.Judging.{known}
use Rattle.ch_session.proofs.session.Session.judge_message.Goals as goal

pub returns-in-Subscribe-clause-judged : goal.returns-in-Subscribe-clause-judged
returns-in-Subscribe-clause-judged c = λ start number asks stands.
    let P : ClientMessage → Type 0 = λ m. IfOk c.hear_subscribe.result (λ j. j.heard ≡ judged_as (known c.args.config.now start number asks c.args.now) c.args.member c.args.user (Ok m)) in
    subst P (sym c.in-Subscribe.is) (c.hear_subscribe.ensures.judged start number asks stands)

pub returns-in-Unsubscribe-clause-judged : goal.returns-in-Unsubscribe-clause-judged
returns-in-Unsubscribe-clause-judged c = λ start number asks stands.
    let P : ClientMessage → Type 0 = λ m. IfOk c.hear_unsubscribe.result (λ j. j.heard ≡ judged_as (known c.args.config.now start number asks c.args.now) c.args.member c.args.user (Ok m)) in
    subst P (sym c.in-Unsubscribe.is) (c.hear_unsubscribe.ensures.judged start number asks stands)

pub returns-in-Say-clause-judged : goal.returns-in-Say-clause-judged
returns-in-Say-clause-judged c = λ start number asks stands.
    let P : ClientMessage → Type 0 = λ m. IfOk c.say.result (λ j. j.heard ≡ judged_as (known c.args.config.now start number asks c.args.now) c.args.member c.args.user (Ok m)) in
    subst P (sym c.in-Say.is) (c.say.ensures.judged start number asks stands)
