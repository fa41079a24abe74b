use Rattle.std.proofs.Common.{◌≡◌, ℕ, ◌<◌, length, take, slice_index_or}
use Rattle.ch_base.specs.declared.limits.TheConstants.{MAX_CALLERS}
use Rattle.ch_outbox.specs.Room.{count_for}
use Rattle.ch_outbox.proofs.deliveries.owner_counts.Given as goal

abbrev pub invariant-loop-delivery : goal.invariant-loop-delivery
invariant-loop-delivery l = record {
  owners : length l.counts ≡ MAX_CALLERS;
  counted : (w : ℕ) → w < MAX_CALLERS → slice_index_or l.counts w 0 ≡ count_for w (take l.delivery-index l.made);
}
