use Rattle.std.proofs.Common.{◌≡◌, ◌∙◌, Option, Some, ap, ap₂, sym, subst}
use Rattle.std.specs.Option.{option_copied}
use Rattle.ch_base.specs.declared.channel.Member.{Member}
use Rattle.ch_history.specs.Answers.{is_crowded}
use Rattle.ch_history.specs.ChannelName.{is_presence}
use Rattle.ch_history.specs.Subscriptions.{on_channel}
use Rattle.ch_history.specs.WellFormed.{IsMemberOf}
use Rattle.ch_shard.specs.Parts.{Parts}
use Rattle.ch_shard.proofs.Sounds.{crowded_is}
use Rattle.ch_shard.proofs.channels.Channels.is_crowded.Goals as goal

pub returns-in-Some : goal.returns-in-Some
returns-in-Some c =
    let d = c.args.channel.now in
    let m : Member = c.in-Some.member.now in
    let some : option_copied c.args.member ≡ Some m = ap option_copied c.in-Some.is in
    let P : Option Member → Type 0 = λ o. IsMemberOf (is_presence d) o in
    c.is_full_for.ensures
    ∙ crowded_is c.self.inside.subs c.self.inside.presence.rows d m c.self.invariant (subst P some c.requires)
    ∙ ap₂ (λ (k : Parts) o. is_crowded d (on_channel k.subs d) o) c.self.view_is (sym some)
