use Rattle.std.proofs.Common.{◌<◌, ◌∙◌, ◌++◌, ◌∷◌, [], List, All, ap, sym, subst, append_assoc}
use Rattle.std.specs.Arc.{arc_value}
use Rattle.std.proofs.lemmas.List.Elements.{All-head, All-tail}
use Rattle.ch_base.specs.declared.frame.Frame.{Frame}
use Rattle.ch_history.specs.declared.rows.Delivery.{Delivery}
use Rattle.ch_index.specs.declared.holder.Holder.{Holder}
use Rattle.ch_outbox.specs.Handed.{handed}
use Rattle.ch_outbox.proofs.HandedRows.{handed_first}
use Rattle.ch_outbox.proofs.handing.hand_out.Goals as goal

pub holders-preserved : goal.holders-preserved
holders-preserved c =
    let frame : Frame = arc_value c.args.printed.now in
    let told : List Holder → List Delivery = handed frame c.args.except in
    let made : List Delivery = c.holders.made.items in
    let holder : Holder = c.in-Some.holder.now in
    let left : List Holder = c.next.new.self in (
      tt,
      tt,
      ap (λ ds. ds ++ told left) c.in_ok-hand_to.ensures.told
          ∙ append_assoc made (told (holder ∷ [])) (told left)
          ∙ ap (λ ds. made ++ ds) (handed_first frame c.args.except holder left)
          ∙ ap (λ hs. made ++ told hs) (sym c.in-Some.ensures.steps)
          ∙ c.holders.invariant.2,
      λ n before all.
          let IsBelow : Holder → Type 0 = λ h. h.owner < n in
          let so_far = c.holders.invariant.3 n before all in
          let those : All IsBelow (holder ∷ left) = subst (All IsBelow) c.in-Some.ensures.steps so_far.1 in
          (c.hand_to.ensures.owners n so_far.0 (All-head IsBelow holder left those), All-tail IsBelow holder left those),
    )
