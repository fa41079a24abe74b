use Rattle.std.proofs.Common.{◌≡◌, ℕ, ◌<◌, ◌≤◌, get_or}
use Rattle.ch_json.proofs.pieces.run_end.Given as goal

abbrev pub invariant-loop-i : goal.invariant-loop-i
invariant-loop-i l = record {
  no_quote : (k : ℕ) → l.at ≤ k → k < l.i → get_or l.bytes k 0 ≡ 34 → ⊥;
  no_backslash : (k : ℕ) → l.at ≤ k → k < l.i → get_or l.bytes k 0 ≡ 92 → ⊥;
}
