-- What seats know: how their views begin, are cut in two, joined and added up.
use Rattle.std.specs.Prelude.{ℕ, ◌+◌, ◌-◌, true, false, List, [], ◌∷◌}
use Rattle.atomic_table.specs.Table.{Me}
use Rattle.ch_base.specs.declared.entry.Entry.{Entry}
use Rattle.ch_turn.specs.declared.table.View.{View}
use Rattle.ch_turn.specs.declared.table.Slot.{Slot}
use Rattle.ch_turn.specs.declared.table.Stage.TheVariants.{Idle}

-- the entries of all calls so far, the newest last
abbrev pub History : Type 0 → Type 0 → Type 0
History C A = List (Entry C A)

-- the view of a seat, and the slots that the seat has
abbrev pub SeatState : Type 0 → Type 0 → Type 0 → Type 0
SeatState T C A = Me (Slot T C A) (View C A)

module _ {C A : Type 0} where
  -- the first seat has every caller number, and has seen nothing
  abbrev pub first_view : ℕ × ℕ → ℕ → View C A
  first_view place callers = record {
    seen = [];
    told = [];
    place = place;
    callers = callers;
    low = 0;
    high = callers;
    told_from = callers;
    calls = 0;
    stage = Idle;
    spent = false;
  }

  -- the seat without its lowest caller number
  abbrev pub after_dealing : View C A → View C A
  after_dealing v = record v { low = v.low + 1 }

  -- the new seat that has that number alone
  abbrev pub dealt_view : View C A → View C A
  dealt_view v = record v { told = []; high = v.low + 1; told_from = v.low + 1; calls = 0; stage = Idle }

  -- a new seat that knows what this one has seen, and has no caller number
  abbrev pub telling_view : View C A → View C A
  telling_view v = record v { told = []; low = 0; high = 0; told_from = 0; calls = 0; stage = Idle }

  -- the seat v once it has taken over the seat w: it is told what w has seen, and has the callers and calls of both
  abbrev pub joint_view : View C A → View C A → View C A
  joint_view v w = record v { told = w.seen; high = v.high + (w.high - w.low); calls = v.calls + w.calls }

  -- a seat that was taken over
  abbrev pub spent_view : View C A
  spent_view = record {
    seen = [];
    told = [];
    place = (0, 0);
    callers = 0;
    low = 0;
    high = 0;
    told_from = 0;
    calls = 0;
    stage = Idle;
    spent = true;
  }

  -- the sum of f over all views
  abbrev pub total : (View C A → ℕ) → List (View C A) → ℕ
  total f [] = 0
  total f (v ∷ vs) = f v + total f vs

  -- how many calls a view has made
  abbrev pub calls_of : View C A → ℕ
  calls_of v = v.calls

  -- how many caller numbers a view has
  abbrev pub callers_of : View C A → ℕ
  callers_of v = v.high - v.low
