use Rattle.std.proofs.Common.{◌∙◌, ◌++◌, ap, sym}
use Rattle.ch_history.specs.Subscriptions.{on_channel}
use Rattle.ch_history.specs.Presence.{user_in}
use Rattle.ch_shard.specs.Parting.{others, farewell, vacated_hook}
use Rattle.ch_shard.proofs.Partings.{departs, leave_hooks_are}
use Rattle.ch_shard.proofs.parting.part.Goals as goal

pub returns-clause-frames : goal.returns-clause-frames
returns-clause-frames c =
    let d = c.args.channel.now in
    let ys = on_channel c.args.subs.now d in
    let before = c.args.made.now.frames.items in
    c.in_ok-say_farewell.ensures
    ∙ ap (λ g. before ++ farewell d g (others ys c.args.socket)) c.gone_user-gone.ensures
    ∙ ap (λ fs. before ++ fs) (sym (departs d ys (others ys c.args.socket) (user_in ys c.args.socket)))

pub returns-clause-hooks : goal.returns-clause-hooks
returns-clause-hooks c =
    let d = c.args.channel.now in
    let ys = on_channel c.args.subs.now d in
    c.in_ok-log_vacated.ensures
    ∙ ap (λ gs. gs ++ vacated_hook d c.has_other-has_other.result) c.in_ok-log_farewell.ensures
    ∙ leave_hooks_are c.args.made.now.hooks.items d ys c.args.socket _ _ c.gone_user-gone.ensures c.has_other-has_other.ensures
