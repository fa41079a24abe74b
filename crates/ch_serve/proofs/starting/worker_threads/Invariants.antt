use Rattle.std.proofs.Common.{◌≡◌, ℕ, ◌+◌, ◌<◌, ◌≤◌, length, None, vec_capacity}
use Rattle.std.specs.Prelude.{slice_index_or}
use Rattle.std.specs.Vec.Iter.{into_iter_len}
use Rattle.ch_serve.proofs.NewThreads.{AreNew}
use Rattle.ch_serve.proofs.starting.worker_threads.Given as goal

abbrev pub invariant-loop-number : goal.invariant-loop-number
invariant-loop-number g l = record {
  house : l.passes.house ≡ l.fn.passes.house;
  size : length l.passes.slots ≡ length l.fn.passes.slots;
  intake : l.slots.intake ≡ l.fn.slots.intake;
  clocks : l.number + into_iter_len l.clocks ≡ l.count;
  count : length l.threads.items ≡ l.number;
  room : l.count ≤ vec_capacity l.threads;
  emptied : (i : ℕ) → i < l.number → slice_index_or l.passes.slots i None ≡ None;
  left : (i : ℕ) → l.number ≤ i → slice_index_or l.passes.slots i None ≡ slice_index_or l.fn.passes.slots i None;
  slots_left : (i : ℕ) → l.number ≤ i → slice_index_or l.slots.slots i None ≡ slice_index_or l.fn.slots.slots i None;
  threads : AreNew l.site.config.now l.site.start l.site.house.now l.threads.items;
}
