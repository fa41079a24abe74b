use Rattle.std.proofs.Common.{◌≡◌, ◌++◌, take}
use Rattle.ch_soak.specs.Summed.{shown}
use Rattle.ch_soak.proofs.summing.show.Given as goal

-- the bytes so far are shown
abbrev pub invariant-loop-i : goal.invariant-loop-i
invariant-loop-i l = shown l.seen.items ≡ shown l.fn.seen.items ++ take l.i l.bytes
