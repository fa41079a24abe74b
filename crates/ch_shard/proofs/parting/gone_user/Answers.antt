use Rattle.std.proofs.Common.{◌∙◌, cond, List, ℕ, Option, Some, None, ap, sym}
use Rattle.ch_shard.proofs.Partings.{gone_is}
use Rattle.ch_shard.proofs.parting.gone_user.Goals as goal

pub returns-then-has_other_of : goal.returns-then-has_other_of
returns-then-has_other_of c =
    let id = c.in_ok-user_id.user_id.now in
    sym (gone_is c.args.channel.now c.args.socket c.args.subs.now id c.requires (sym c.in_ok-user_id.ensures)
    ∙ ap (λ b. cond {A = Option (List ℕ)} b None (Some id)) (sym c.has_other_of.ensures ∙ c.if-has_other_of.true))

pub returns-else-has_other_of : goal.returns-else-has_other_of
returns-else-has_other_of c =
    let id = c.in_ok-user_id.user_id.now in
    sym (gone_is c.args.channel.now c.args.socket c.args.subs.now id c.requires (sym c.in_ok-user_id.ensures)
    ∙ ap (λ b. cond {A = Option (List ℕ)} b None (Some id)) (sym c.has_other_of.ensures ∙ c.if-has_other_of.false))
