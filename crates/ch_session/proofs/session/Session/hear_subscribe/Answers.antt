use Rattle.std.proofs.Common.{◌≡◌, ℕ, List, sym, ap, ◌∙◌, subst}
use Rattle.std.specs.Prelude.{Option, None, is_some, option_map, IfOk}
use Rattle.ch_protocol.specs.Sessions.{is_given, subscribes}
use Rattle.ch_protocol.specs.Settling.{user_of}
use Rattle.ch_history.specs.UserChannels.{channel_user}
use Rattle.ch_session.specs.Judging.{known}
use Rattle.ch_session.proofs.JudgingLemmas.{no_owner}
use Rattle.ch_session.proofs.HearingLemmas.{good_if_no_user, own_by}
use Rattle.ch_session.proofs.session.Session.hear_subscribe.Goals as goal

pub subscribe-requires-clause-channel : goal.subscribe-requires-clause-channel
subscribe-requires-clause-channel c =
    let none = no_owner c.args.self.now.told.user (channel_user c.as_str.result.now) c.in-None.ensures in
    good_if_no_user c.args.channel c.requires.channel (ap is_some (ap channel_user (sym c.as_str.ensures.same) ∙ none))

pub returns-in-Some-clause-judged : goal.returns-in-Some-clause-judged
returns-in-Some-clause-judged c = λ start number asks stands.
    let same = ap (λ n. option_map (is_given (user_of asks)) (channel_user n)) c.as_str.ensures.same in
    let user = ap (λ u. option_map (is_given u) (channel_user c.as_str.result.now)) stands.tells.user in
    c.subscribe_own.ensures.heard
    ∙ own_by (known c.args.config.now start number asks c.args.now) c.args.channel c.args.auth c.args.channel_data c.args.member (channel_user c.args.channel) c.in-Some.owns
    (c.in-Some.ensures ∙ user ∙ same)

pub returns-in-Some-clause-ready : goal.returns-in-Some-clause-ready
returns-in-Some-clause-ready c = c.subscribe_own.ensures.ready c.args.config.now

pub returns-in-None-clause-judged : goal.returns-in-None-clause-judged
returns-in-None-clause-judged c = λ start number asks stands.
    let none = no_owner c.args.self.now.told.user (channel_user c.as_str.result.now) c.in-None.ensures in
    let none : channel_user c.args.channel ≡ None = ap channel_user (sym c.as_str.ensures.same) ∙ none in
    let P : Option (List ℕ) → Type 0 = λ owner. IfOk c.subscribe.result
    (λ j. j.heard ≡ subscribes (known c.args.config.now start number asks c.args.now) c.args.channel c.args.auth c.args.channel_data c.args.member owner) in
    subst P (sym none) (c.subscribe.ensures.judged start number asks stands)
