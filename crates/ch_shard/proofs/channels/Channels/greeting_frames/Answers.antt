use Rattle.std.proofs.Common.{◌∙◌, ◌++◌, ◌∷◌, [], ap, ap₂}
use Rattle.std.specs.Option.{option_copied}
use Rattle.ch_cache.specs.Latest.{latest_in}
use Rattle.ch_history.specs.Frames.{to}
use Rattle.ch_history.specs.Subscriptions.{on_channel}
use Rattle.ch_shard.specs.Greeting.{first_frame, latest_news, arrived}
use Rattle.ch_shard.specs.Parts.{Parts, newcomer, join_frames}
use Rattle.ch_shard.proofs.Greetings.{join_frames_are}
use Rattle.ch_shard.proofs.channels.Channels.greeting_frames.Goals as goal

pub returns-clause-made : goal.returns-clause-made
returns-clause-made c =
    let d = c.args.channel.now in
    let w = c.args.caller in
    let socket = c.args.socket in
    let member = option_copied c.args.member in
    let user = option_copied c.new_user-user.result in
    let xs = c.self.inside.subs in
    let rows = c.self.inside.presence.rows in
    let kept = latest_in c.self.inside.cache d c.args.now in
    let n = newcomer w socket d member in
    c.in_ok-tell_arrival.ensures
    ∙ ap (λ fs. fs ++ arrived d user (on_channel xs d))
    (c.in_ok-tell_latest.ensures
    ∙ ap₂ (λ fs o. fs ++ latest_news d o w socket) (c.in_ok-greet.ensures ∙ ap (λ fs. fs ++ to c.in_ok-frame.frame n ∷ []) c.new-frames.ensures.items) c.latest.ensures)
    ∙ join_frames_are xs rows kept w socket d member c.in_ok-frame.frame user c.self.invariant c.requires.member (c.in_ok-frame.ensures.is ∙ ap (first_frame rows d) c.requires.row) c.new_user-user.ensures
    ∙ ap (λ (k : Parts). join_frames k c.args.now n) c.self.view_is
