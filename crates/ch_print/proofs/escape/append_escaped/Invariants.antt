use Rattle.std.proofs.Common.{◌≡◌, ℕ, ◌<◌, ◌≤◌, ◌++◌, length, take, drop, get_or, false}
use Rattle.std.specs.Str.{IsCharBoundary}
use Rattle.ch_base.specs.Escape.{escaped, needs_escape}
use Rattle.ch_print.proofs.escape.append_escaped.Given as goal

abbrev pub invariant-loop-i : goal.invariant-loop-i
invariant-loop-i l = record {
  within : l.from ≤ l.i;
  boundary : IsCharBoundary l.text l.from;
  plain : (k : ℕ) → l.from ≤ k → k < l.i → needs_escape (get_or l.text k 0) ≡ false;
  added : l.out ++ escaped (drop l.from l.text) ≡ l.fn.out ++ escaped l.text;
  front : take (length l.fn.out) l.out ≡ l.fn.out;
}
