use Rattle.std.proofs.Common.{◌≡◌}
use Rattle.bench_turn.proofs.turns.call_often.Given as goal

-- a call leaves the pass with its lock
abbrev pub invariant-loop : goal.invariant-loop
invariant-loop g l = l.pass.lock ≡ l.fn.pass.lock
