use Rattle.std.proofs.Common.{◌≡◌, ◌↔◌, ◌<◌, ℕ, get_or}
use Rattle.ch_sig.proofs.authorization.difference.Given as goal

abbrev pub invariant-bytes : goal.invariant-bytes
invariant-bytes l = (l.bits ≡ 0) ↔ ((k : ℕ) → k < l.i → get_or l.left k 0 ≡ get_or l.right k 0)
