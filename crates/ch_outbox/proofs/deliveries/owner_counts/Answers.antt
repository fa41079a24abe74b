use Rattle.std.proofs.Common.{◌<◌, ◌≡◌, ◌∙◌, refl, sym, subst, length, arith}
use Rattle.std.proofs.lemmas.List.{get_or-replicate, length-set}
use Rattle.ch_base.specs.declared.limits.TheConstants.{MAX_CALLERS}
use Rattle.ch_history.specs.declared.rows.Delivery.{Delivery}
use Rattle.ch_outbox.proofs.Rooms.{OwnsFrame, counted}
use Rattle.ch_outbox.proofs.deliveries.owner_counts.Goals as goal

pub loop-delivery-init : goal.loop-delivery-init
loop-delivery-init c = record { owners = refl; counted = λ w small. get_or-replicate MAX_CALLERS w 0 0 small }

pub loop-delivery-preserved : goal.loop-delivery-preserved
loop-delivery-preserved c =
    let i = c.loop-delivery.delivery-index in
    let d : Delivery = c.delivery-item.result in
    let counts = c.loop-delivery.counts in
    let below : d.owner < MAX_CALLERS = subst OwnsFrame (sym c.delivery-item.is) (c.requires i d c.loop-delivery-test.true) in
    let owners : length counts ≡ MAX_CALLERS = c.loop-delivery.invariant.owners in
    let there : d.owner < length counts = omega (arith, below, owners) in
    record {
      owners = length-set counts d.owner _ ∙ owners;
      counted = counted counts c.args.made.now i d c.loop-delivery-test.true c.delivery-item.is there c.loop-delivery.invariant.counted;
    }
