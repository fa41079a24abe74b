use Rattle.std.proofs.Common.{◌∙◌, ap}
use Rattle.ch_base.specs.declared.channel.ChanAnswer.TheVariants.{Ids}
use Rattle.ch_shard.specs.Parts.{Parts, user_ids}
use Rattle.ch_shard.proofs.Sounds.{users_are}
use Rattle.ch_shard.proofs.channels.Channels.users.Goals as goal

pub returns : goal.returns
returns c =
    let d = c.args.channel.now in
    ap (λ us. Ids us) (c.in_ok-ids.ensures ∙ users_are c.self.inside.subs c.self.inside.presence.rows d c.self.invariant)
    ∙ ap (λ (k : Parts). user_ids k.subs d) c.self.view_is
