use Rattle.std.proofs.Common.{◌≡◌, ◌++◌, length, map, All}
use Rattle.std.specs.Vec.Iter.{into_iter_items, into_iter_len}
use Rattle.ch_drill.specs.Seats.{MayWork}
use Rattle.ch_drill.specs.declared.seat.Seat.{Seat}
use Rattle.ch_drill.proofs.working.sit_down.Given as goal

-- the callers so far have their desks, and the others are left
abbrev pub invariant-loop-passes : goal.invariant-loop-passes
invariant-loop-passes l = record {
  desks : map (λ (s : Seat). s.desk) l.seats.items ++ into_iter_items l.passes-iterator ≡ l.fn.taken.items;
  may : All MayWork l.seats.items;
  own : All (λ p. p.house ≡ l.house) (into_iter_items l.passes-iterator);
  len : into_iter_len l.passes-iterator ≡ length (into_iter_items l.passes-iterator);
}
