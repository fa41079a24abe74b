use Rattle.std.proofs.Common.{◌≡◌, rules, sym, ap, ◌∙◌}
use Rattle.ch_history.specs.UserChannels.{channel_user}
use Rattle.ch_history.specs.UserFrames.{user_channel}
use Rattle.ch_names.proofs.UserChannelLemmas.{channel_of_user, channel_of_none, no_user}
use Rattle.ch_names.proofs.user_name.user_channel.Goals as goal

pub returns-in_err-id-clause-user : goal.returns-in_err-id-clause-user
returns-in_err-id-clause-user c = rw c.from_residual.ensures (sym (no_user c.args.name.now (λ id is _. c.in_err-id.ensures.cases id is)))

pub returns-in_err-id-clause-none : goal.returns-in_err-id-clause-none
returns-in_err-id-clause-none c = rw c.from_residual.ensures (λ id is _. c.in_err-id.ensures.cases id is)

pub returns-then-is_user_id-clause-user : goal.returns-then-is_user_id-clause-user
returns-then-is_user_id-clause-user c =
    let name : c.args.name.now ≡ user_channel c.in_ok-id.id.now = search rules in
    sym (ap channel_user name ∙ channel_of_user c.in_ok-id.id.now (sym c.is_user_id.ensures ∙ c.if-is_user_id.true))

pub returns-else-is_user_id-clause-user : goal.returns-else-is_user_id-clause-user
returns-else-is_user_id-clause-user c =
    let name : c.args.name.now ≡ user_channel c.in_ok-id.id.now = search rules in
    sym (ap channel_user name ∙ channel_of_none c.in_ok-id.id.now (sym c.is_user_id.ensures ∙ c.if-is_user_id.false))
