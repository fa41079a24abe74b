use Rattle.std.proofs.Common.{◌≡◌}
use Rattle.ch_turn.proofs.call.acquire.Given as goal

-- a look that finds another ticket changes nothing
abbrev pub invariant-loop : goal.invariant-loop
invariant-loop g l = (l.seat.table_id ≡ l.initial.seat.table_id) × (l.seat.id ≡ l.initial.seat.id) × (l.seat.me ≡ l.initial.seat.me)
