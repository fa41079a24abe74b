use Rattle.std.proofs.Common.{◌≡◌, ◌++◌, length, map}
use Rattle.std.specs.Vec.Iter.{into_iter_items, into_iter_len}
use Rattle.ch_drill.specs.declared.seat.Seat.{Seat}
use Rattle.ch_drill.proofs.working.get_up.Given as goal

-- the workers so far got up, and the others are left
abbrev pub invariant-loop-seat : goal.invariant-loop-seat
invariant-loop-seat l = record {
  passes : l.taken.items ++ map (λ (s : Seat). s.desk) (into_iter_items l.seat-iterator) ≡ map (λ (s : Seat). s.desk) l.fn.seats.items;
  workers : l.workers.items ++ map (λ (s : Seat). s.worker) (into_iter_items l.seat-iterator) ≡ map (λ (s : Seat). s.worker) l.fn.seats.items;
  len : into_iter_len l.seat-iterator ≡ length (into_iter_items l.seat-iterator);
}
