use Rattle.std.proofs.Common.{◌≡◌}
use Rattle.rows_intake.proofs.queue.pop_numbers.Given as goal

abbrev pub invariant-loop : goal.invariant-loop
invariant-loop g l = l.pass.intake ≡ l.fn.pass.intake
