use Rattle.std.proofs.Common.{◌∙◌, ap, map, Bor}
use Rattle.std.proofs.lemmas.List.{take_all}
use Rattle.ch_base.specs.declared.channel.NameRow.{NameRow}
use Rattle.ch_requests.specs.Replies.{row_member}
use Rattle.ch_api.proofs.RowsByName.{map-behind}
use Rattle.ch_api.proofs.rows.row_members.Goals as goal

pub returns : goal.returns
returns c =
    let told = λ (r : Bor NameRow). row_member c.args.wanted r.now in
    c.loop-row.invariant
    ∙ ap (map told) (take_all c.loop-row.row-index c.deref-row-items.result.now c.loop-row-test.false)
    ∙ ap (map told) c.deref-row-items.ensures.value
    ∙ map-behind (row_member c.args.wanted) c.in_ok-rows.rows.items
    ∙ ap (map (row_member c.args.wanted)) c.in_ok-rows.ensures
