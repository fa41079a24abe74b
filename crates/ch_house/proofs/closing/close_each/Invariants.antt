use Rattle.std.proofs.Common.{◌≡◌, ℕ, ◌+◌, ◌≤◌, length, drop, Some, vec_capacity}
use Rattle.std.specs.Prelude.{slice_get}
use Rattle.std.specs.Iterator.Adapters.{zip_first, zip_second}
use Rattle.std.specs.Vec.Iter.{into_iter_items, into_iter_len}
use Rattle.ch_turn.specs.declared.closing.Closed.{Closed}
use Rattle.ch_turn.specs.PassModels.{PassListModel, HasHistory}
use Rattle.ch_house.proofs.closing.close_each.Given as goal

-- so many locks are closed, and the others are left
abbrev pub invariant-loop-lock : goal.invariant-loop-lock
invariant-loop-lock g l = record {
  can : (goal.iterator-loop-lock g).can_next l.lock-iterator;
  ends : (goal.iterator-loop-lock g).is_finite l.lock-iterator;
  locks_left : into_iter_items (zip_first l.lock-iterator) ≡ drop (length l.room.items) l.fn.locks.items;
  lists_left : into_iter_items (zip_second l.lock-iterator) ≡ drop (length l.room.items) l.fn.lists.items;
  locks_len : into_iter_len (zip_first l.lock-iterator) + length l.room.items ≡ length l.fn.locks.items;
  lists_len : into_iter_len (zip_second l.lock-iterator) + length l.room.items ≡ length l.fn.lists.items;
  room : length l.fn.locks.items ≤ vec_capacity l.room;
  histories : (k : ℕ) (m : PassListModel g.row.T-Call.Denot g.row.T-Answer.Denot) (c : Closed g.row.T.Denot)
      → slice_get l.fn.lists.items k ≡ Some m → slice_get l.room.items k ≡ Some c → HasHistory g.T.Served.legal g.T.Served.stands m.lock m.slots c.value c.entries;
  places : (k : ℕ) (m : PassListModel g.row.T-Call.Denot g.row.T-Answer.Denot) (c : Closed g.row.T.Denot)
      → slice_get l.fn.lists.items k ≡ Some m → slice_get l.room.items k ≡ Some c → g.T.Served.place c.value ≡ m.lock.place;
}
