use Rattle.std.proofs.Common.{◌≡◌, ◌≤◌}
use Rattle.ch_drill.specs.DrillCounts.{rounds_on}
use Rattle.ch_drill.proofs.counts.rounds_on.Given as goal

-- the rounds so far are counted
abbrev pub invariant-loop-round : goal.invariant-loop-round
invariant-loop-round l = (l.count ≡ rounds_on l.round l.shard) × (l.count ≤ l.round)
