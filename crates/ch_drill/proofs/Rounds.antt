-- The messages of one round more.
use Rattle.std.proofs.Common.{◌≡◌, ℕ, suc, ◌+◌, ◌++◌, ap, arith}
use Rattle.ch_drill.specs.DrillLinks.{rounds_text, round_text}

pub one_round_more : (n : ℕ) → rounds_text (n + 1) ≡ rounds_text n ++ round_text n
one_round_more n = let e : n + 1 ≡ suc n = omega arith in ap rounds_text e
