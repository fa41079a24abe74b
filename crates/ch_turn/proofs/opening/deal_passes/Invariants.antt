use Rattle.std.proofs.Common.{◌≡◌, ℕ, ◌<◌, ◌≤◌, [], length, slice_index_or, None, Some, vec_capacity}
use Rattle.ch_turn.specs.SeatStates.{dealer_view}
use Rattle.ch_turn.specs.PassModels.{lock_model, fresh_pass}
use Rattle.ch_turn.proofs.opening.deal_passes.Given as goal

-- the callers below `caller` have their passes, and the seat has the others
abbrev pub invariant-loop-caller : goal.invariant-loop-caller
invariant-loop-caller g l = (l.seat.table_id ≡ l.fn.seat.table_id) × (l.seat.me ≡ (dealer_view l.fn.seat.me.0.place l.callers l.caller, [])) × (length l.passes.items ≡ l.caller) × (l.callers ≤ vec_capacity l.passes)
    × ((j : ℕ) → j < l.caller → slice_index_or l.passes.items j None ≡ Some (fresh_pass (lock_model l.fn.seat.table_id l.callers l.fn.seat.me.0.place) j))
