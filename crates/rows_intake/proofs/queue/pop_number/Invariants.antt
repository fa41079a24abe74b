use Rattle.std.proofs.Common.{◌≡◌}
use Rattle.rows_intake.proofs.queue.pop_number.Given as goal

abbrev pub invariant-loop : goal.invariant-loop
invariant-loop g l = (goal.iterator-loop g).can_next l.iterator' × (goal.iterator-loop g).is_finite l.iterator' × (l.pass.intake ≡ l.fn.pass.intake)
