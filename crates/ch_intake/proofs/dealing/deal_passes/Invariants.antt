use Rattle.std.proofs.Common.{◌≡◌, ℕ, ◌<◌, ◌≤◌, [], length, slice_index_or, None, Some, vec_capacity}
use Rattle.ch_base.specs.declared.limits.TheConstants.{MAX_CALLERS}
use Rattle.crossbeam_queue.specs.Passes.{view, IsPassOf}
use Rattle.ch_intake.specs.PassModels.{fresh_pass}
use Rattle.ch_intake.specs.PassViews.{known}
use Rattle.ch_intake.proofs.dealing.deal_passes.Given as goal

-- the callers below `caller` have their passes, and the dealer has the other numbers
abbrev pub invariant-loop-caller : goal.invariant-loop-caller
invariant-loop-caller g l = record {
  own : IsPassOf l.queue l.dealer;
  same : l.dealer.table_id ≡ l.fn.dealer.table_id;
  dealer : view l.dealer ≡ known l.caller MAX_CALLERS [];
  count : length l.passes.items ≡ l.caller;
  room : l.callers ≤ vec_capacity l.passes;
  each : (i : ℕ) → i < l.caller → slice_index_or l.passes.items i None ≡ Some (fresh_pass l.fn.dealer.table_id i);
}
