use Rattle.std.proofs.Common.{◌≡◌, ℕ, ◌+◌, ◌-◌, ◌≤◌, length}
use Rattle.ch_outbox.specs.Outbox.{frames_of, spare_of}
use Rattle.ch_outbox.proofs.outbox.grow.Given as goal

abbrev pub invariant-owners : goal.invariant-owners
invariant-owners l = record {
  frames : (w : ℕ) → frames_of l.queues.items w ≡ frames_of l.initial.queues.items w;
  spare : (w : ℕ) → spare_of l.initial.queues.items w ≤ spare_of l.queues.items w;
}

abbrev pub decreases-owners : goal.decreases-owners
decreases-owners l = l.owner + 1 - length l.queues.items
