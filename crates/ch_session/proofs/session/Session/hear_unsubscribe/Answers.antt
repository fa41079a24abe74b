use Rattle.std.proofs.Common.{◌≡◌, [], false, sym, ap, ◌∙◌}
use Rattle.ch_history.specs.UserChannels.{is_user_channel}
use Rattle.ch_session.specs.Judging.{known}
use Rattle.ch_session.proofs.HearingLemmas.{good_if_no_user, unsubscribe_by}
use Rattle.ch_session.proofs.session.Session.hear_unsubscribe.Goals as goal

pub returns-then-is_user_channel-clause-ready : goal.returns-then-is_user_channel-clause-ready
returns-then-is_user_channel-clause-ready c = c.ignore.ensures.ready c.args.config.now []

pub unsubscribe-requires-clause-channel : goal.unsubscribe-requires-clause-channel
unsubscribe-requires-clause-channel c =
    let no : is_user_channel c.args.channel ≡ false = ap is_user_channel (sym c.as_str.ensures.same) ∙ sym c.is_user_channel.ensures ∙ c.if-is_user_channel.false in
    good_if_no_user c.args.channel c.requires.channel no

pub returns-clause-judged : goal.returns-clause-judged
returns-clause-judged c = λ start number asks stands.
    let no : is_user_channel c.args.channel ≡ false = ap is_user_channel (sym c.as_str.ensures.same) ∙ sym c.is_user_channel.ensures ∙ c.if-is_user_channel.false in
    unsubscribe_by (known c.args.config.now start number asks c.args.now) c.args.channel c.unsubscribe.result no (c.unsubscribe.ensures.judged start number asks stands)
