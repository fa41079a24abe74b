use Rattle.std.proofs.Common.{◌≡◌, ◌-◌, ◌≤◌, ◌++◌, flat_map}
use Rattle.std.specs.VecDeque.{deque_capacity, deque_len}
use Rattle.ch_batch.proofs.merging.merge.Given as goal

abbrev pub invariant-loop-list : goal.invariant-loop-list
invariant-loop-list l = record {
  all : l.merged.items ++ flat_map (λ x. x) l.lists.items ≡ l.fn.merged.items ++ flat_map (λ x. x) l.fn.lists.items;
  room : deque_capacity l.fn.lists - deque_len l.fn.lists ≤ deque_capacity l.lists - deque_len l.lists;
}

abbrev pub decreases-loop-list : goal.decreases-loop-list
decreases-loop-list l = deque_len l.lists
