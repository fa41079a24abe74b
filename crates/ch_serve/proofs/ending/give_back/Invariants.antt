use Rattle.std.proofs.Common.{◌≡◌, ◌+◌, ◌≤◌, length, drop, vec_capacity}
use Rattle.std.specs.Vec.Iter.{into_iter_items, into_iter_len}
use Rattle.ch_serve.specs.GivenBack.{GivenBack}
use Rattle.ch_serve.proofs.ending.give_back.Given as goal

abbrev pub invariant-loop-place : goal.invariant-loop-place
invariant-loop-place g l = record {
  threads : into_iter_items l.threads ≡ drop l._place l.fn.threads.items;
  len : l._place + into_iter_len l.threads ≡ l.count;
  room : length l.fn.threads.items ≤ vec_capacity l.workers;
  given : GivenBack l._place l.fn.threads.items l.fn.passes l.passes l.workers.items;
}
