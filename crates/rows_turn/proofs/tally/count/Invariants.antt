use Rattle.std.proofs.Common.{◌≡◌}
use Rattle.rows_turn.proofs.tally.count.Given as goal

abbrev pub invariant-loop : goal.invariant-loop
invariant-loop g l = (l.pass.lock ≡ l.initial.pass.lock) × (l.pass.caller ≡ l.initial.pass.caller)
