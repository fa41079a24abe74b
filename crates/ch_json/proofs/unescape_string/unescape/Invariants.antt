use Rattle.std.proofs.Common.{◌-◌, length, string_bytes}
use Rattle.ch_json.proofs.Unescaped.{SoFar}
use Rattle.ch_json.proofs.unescape_string.unescape.Given as goal

abbrev pub invariant-loop-out : goal.invariant-loop-out
invariant-loop-out l = SoFar l.string l.at (string_bytes l.out)

abbrev pub decreases-loop-out : goal.decreases-loop-out
decreases-loop-out l = length l.string - l.at
