use Rattle.std.proofs.Common.{◌∙◌, ◌++◌, ◌∷◌, [], ap₂, sym, arith}
use Rattle.std.proofs.lemmas.List.{take_all}
use Rattle.ch_presence.specs.Members.{ids_on}
use Rattle.ch_shard.proofs.Lists.{take-next}
use Rattle.ch_shard.proofs.UserLists.{id_at}
use Rattle.ch_shard.proofs.looking.user_ids.Goals as goal

pub loop-i-preserved : goal.loop-i-preserved
loop-i-preserved c =
    let rows = c.args.presence.now.rows in
    let d = c.args.channel.now in
    let m = c.row-member.result.now in
    c.in_ok-push.ensures.ok
    ∙ ap₂ (λ us u. us ++ u ∷ []) c.loop-i.invariant c.in_ok-id.ensures
    ∙ sym (take-next (ids_on rows d) c.loop-i.i m.user_id (id_at rows d c.loop-i.i m c.row-member.ensures))

pub returns : goal.returns
returns c =
    let ids = ids_on c.args.presence.now.rows c.args.channel.now in
    c.loop-i.invariant ∙ take_all c.loop-i.i ids (omega (arith, c.count-i-end.ensures))
