use Rattle.std.proofs.Common.{◌∙◌, length, ap}
use Rattle.ch_history.specs.Presence.{users_in}
use Rattle.ch_history.specs.Subscriptions.{on_channel}
use Rattle.ch_shard.proofs.Sounds.{users_are}
use Rattle.ch_shard.proofs.channels.Channels.user_count.Goals as goal

pub returns : goal.returns
returns c =
    let d = c.args.channel.now in
    c.count.ensures
    ∙ ap length (users_are c.self.inside.subs c.self.inside.presence.rows d c.self.invariant)
    ∙ ap (λ k. length (users_in d (on_channel k.subs d))) c.self.view_is
