use Rattle.std.proofs.Common.{◌≡◌, ℕ, ◌<◌, ◌≤◌, slice_index_or, None, Some}
use Rattle.ch_turn.specs.SeatStates.{Gathered}
use Rattle.ch_turn.specs.Callers.{GrowsByOthers}
use Rattle.ch_turn.specs.PassModels.{PassModel}
use Rattle.ch_turn.proofs.closing.gather.Given as goal

-- the passes below i are taken over, and the others are still there
abbrev pub invariant-loop-i : goal.invariant-loop-i
invariant-loop-i g l = (l.seat.table_id ≡ l.table.table_id) × Gathered l.seat.me.0 l.i × (l.passes.lock ≡ l.fn.passes.lock)
    × ((j : ℕ) → l.i ≤ j → slice_index_or l.passes.slots j None ≡ slice_index_or l.fn.passes.slots j None)
    × ((j : ℕ) (p : PassModel g.row.T-Call.Denot g.row.T-Answer.Denot) → j < l.i → slice_index_or l.fn.passes.slots j None ≡ Some p → GrowsByOthers p.caller p.seen l.seat.me.0.seen)
