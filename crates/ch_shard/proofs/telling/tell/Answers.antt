use Rattle.std.proofs.Common.{◌≡◌, ◌∙◌, ◌++◌, ap, ap₂, subst}
use Rattle.std.specs.Arc.{arc_value}
use Rattle.std.specs.Result.{OnOk}
use Rattle.ch_base.specs.declared.frame.Frame.{Frame}
use Rattle.ch_history.specs.declared.rows.Subscription.{Subscription}
use Rattle.ch_history.specs.Subscriptions.{on_channel}
use Rattle.ch_outbox.specs.Handed.{handed}
use Rattle.ch_outbox.proofs.HandedRows.{handed-rows}
use Rattle.ch_shard.proofs.telling.tell.Goals as goal

pub returns : goal.returns
returns c =
    let frame : Frame = arc_value c.args.printed.now in
    let subs = on_channel c.args.subs.now c.args.channel.now in
    let all = ap (handed frame c.args.except) c.holders.ensures ∙ handed-rows (λ (s : Subscription). s.socket) (λ s. s.owner) frame c.args.except subs in
    subst (λ ds. OnOk c.hand_out.result (c.hand_out.new.made.items ≡ ds)) (ap₂ (λ ds es. ds ++ es) c.reserve.ensures.items all) c.hand_out.ensures.told
