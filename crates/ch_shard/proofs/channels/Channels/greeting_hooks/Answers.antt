use Rattle.std.proofs.Common.{◌∙◌, ◌++◌, ap, ap₂}
use Rattle.std.specs.Option.{option_copied}
use Rattle.ch_cache.specs.Latest.{latest_in}
use Rattle.ch_history.specs.Webhooks.{missed}
use Rattle.ch_shard.specs.Greeting.{arrived_hook, occupied_hook}
use Rattle.ch_shard.specs.Parts.{Parts, newcomer, join_hooks}
use Rattle.ch_shard.proofs.Greetings.{join_hooks_are}
use Rattle.ch_shard.proofs.channels.Channels.greeting_hooks.Goals as goal

pub returns : goal.returns
returns c =
    let d = c.args.channel.now in
    let member = option_copied c.args.member in
    let user = option_copied c.new_user-user.result in
    let kept = latest_in c.self.inside.cache d c.args.now in
    c.in_ok-log_missed.ensures
    ∙ ap₂ (λ gs o. gs ++ missed d o)
    (c.in_ok-log_arrival.ensures
    ∙ ap (λ gs. gs ++ arrived_hook d user) (c.in_ok-log_occupied.ensures ∙ ap (λ gs. gs ++ occupied_hook d c.count-count.result) c.new-hooks.ensures.items))
    c.latest.ensures
    ∙ join_hooks_are c.self.inside.subs c.self.inside.presence.rows kept d member c.count-count.result user c.self.invariant c.count-count.ensures c.new_user-user.ensures
    ∙ ap (λ (k : Parts). join_hooks k c.args.now (newcomer 0 0 d member)) c.self.view_is
