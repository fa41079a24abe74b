use Rattle.std.proofs.Common.{◌≡◌, All}
use Rattle.bench_turn.proofs.turns.taken_passes.Given as goal

abbrev pub invariant-loop-caller : goal.invariant-loop-caller
invariant-loop-caller l = (l.passes.lock ≡ l.fn.passes.lock) × All (λ p. p.lock ≡ l.fn.passes.lock) l.taken.items
