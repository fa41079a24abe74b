use Rattle.std.proofs.Common.{◌≡◌}
use Rattle.rows_intake.proofs.queue.push_numbers.Given as goal

abbrev pub invariant-loop-number : goal.invariant-loop-number
invariant-loop-number g l = l.pass.intake ≡ l.fn.pass.intake
