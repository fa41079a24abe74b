use Rattle.std.proofs.Common.{◌≡◌, ℕ, ◌<◌, ◌++◌, All, reverse, vec_len}
use Rattle.ch_base.specs.declared.limits.TheConstants.{MAX_CALLERS}
use Rattle.ch_history.specs.Deliveries.{for_owner}
use Rattle.ch_outbox.specs.Outbox.{frames_of}
use Rattle.ch_outbox.specs.Room.{HasRoom}
use Rattle.ch_outbox.proofs.outbox.Outbox.deliver.Given as goal

abbrev pub invariant-loop-delivery : goal.invariant-loop-delivery
invariant-loop-delivery l = record {
  owners : All (λ d. d.owner < MAX_CALLERS) l.made.items;
  room : HasRoom l.self (reverse l.made.items);
  so_far : (w : ℕ) → frames_of l.self w ++ for_owner w (reverse l.made.items) ≡ frames_of l.initial.self w ++ for_owner w (reverse l.initial.made.items);
}

abbrev pub decreases-loop-delivery : goal.decreases-loop-delivery
decreases-loop-delivery l = vec_len l.made
