use Rattle.std.proofs.Common.{◌≡◌, ℕ, ◌<◌, ◌≤◌}
use Rattle.ch_outbox.specs.Outbox.{frames_of, spare_of}
use Rattle.ch_outbox.specs.Room.{count_for}
use Rattle.ch_outbox.proofs.outbox.Outbox.reserve_for.Given as goal

abbrev pub invariant-loop-owner : goal.invariant-loop-owner
invariant-loop-owner l = record {
  frames : (w : ℕ) → frames_of l.self w ≡ frames_of l.initial.self w;
  room : (w : ℕ) → w < l.owner → count_for w l.made ≤ spare_of l.self w;
}
