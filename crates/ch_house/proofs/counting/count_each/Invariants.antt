use Rattle.std.proofs.Common.{◌≡◌, ◌≤◌, List, length, vec_capacity}
use Rattle.ch_base.specs.declared.entry.Entry.{Entry}
use Rattle.ch_house.proofs.Counted.{AreCounts}
use Rattle.ch_house.proofs.counting.count_each.Given as goal

abbrev pub invariant-loop-seat : goal.invariant-loop-seat
invariant-loop-seat g l = record {
  room : length l.fn.closed ≤ vec_capacity l.room;
  counts : AreCounts (λ s n. (h : List (Entry g.row.T-Call.Denot g.row.T-Answer.Denot)) → g.T.Served.stands s h → n ≡ g.T.Counted.left_after h) l.fn.closed l.seat-index l.room.items;
}
