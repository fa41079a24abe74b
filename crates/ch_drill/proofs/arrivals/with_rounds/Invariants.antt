use Rattle.std.proofs.Common.{◌≡◌, ◌++◌}
use Rattle.ch_drill.specs.DrillLinks.{rounds_text}
use Rattle.ch_drill.proofs.arrivals.with_rounds.Given as goal

-- the messages of the rounds so far are there
abbrev pub invariant-loop-round : goal.invariant-loop-round
invariant-loop-round l = l.bytes.items ≡ l.fn.bytes.items ++ rounds_text l.round
