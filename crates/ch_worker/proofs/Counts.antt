-- Counts that stand still at their type's end.
use Rattle.std.proofs.Common.{◌≡◌, ◌<◌, ◌+◌, ◌^◌, ℕ, min, arith}
use Rattle.ch_io.specs.Counts.{raised}

-- raised twice is raised by both
pub raised_twice : (a m n : ℕ) → raised (raised a m) n ≡ raised a (m + n)
raised_twice a m n = omega arith

pub raised_none : (a : ℕ) → raised a 0 ≡ a
raised_none a = omega arith

-- one more, as a sum that stands still at its type's end
pub one_more : (a n : ℕ) → a < 2 ^ 64 → n ≡ min (a + 1) 18446744073709551615 → n ≡ raised a 1
one_more a n small is = omega (arith, small, is)
