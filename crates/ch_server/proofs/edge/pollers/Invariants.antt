use Rattle.std.proofs.Common.{◌≡◌, length}
use Rattle.ch_server.proofs.edge.pollers.Given as goal

abbrev pub invariant-loop : goal.invariant-loop
invariant-loop g l = length l.pollers.items ≡ l.counter
