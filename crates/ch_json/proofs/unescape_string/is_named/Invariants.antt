use Rattle.std.proofs.Common.{◌-◌, length}
use Rattle.ch_json.proofs.Unescaped.{Matches}
use Rattle.ch_json.proofs.unescape_string.is_named.Given as goal

abbrev pub invariant-loop-end : goal.invariant-loop-end
invariant-loop-end l = Matches l.string l.at l.fn.name l.left

abbrev pub decreases-loop-end : goal.decreases-loop-end
decreases-loop-end l = length l.string - l.at
