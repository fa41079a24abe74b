-- Counts over several calls.
use Rattle.std.proofs.Common.{◌≡◌, ℕ, ◌+◌, ◌≤◌, arith}
use Rattle.ch_io.specs.Counts.{Rose, raised, NeverFall}
use Rattle.ch_io.specs.declared.counts.Counts.{Counts}

pub Rose-before : (a b c : ℕ) → Rose a b → b ≤ c → Rose a c
Rose-before a b c rose later = omega arith

pub Rose-after : (a b c : ℕ) → a ≤ b → Rose b c → Rose a c
Rose-after a b c later rose = omega arith

pub NeverFall-then : (a b c : Counts) → NeverFall a b → NeverFall b c → NeverFall a c
NeverFall-then a b c p q = record { faults = omega (arith, p.faults, q.faults); stalls = omega (arith, p.stalls, q.stalls); ends = omega (arith, p.ends, q.ends) }

pub NeverFall-none : (a : Counts) → NeverFall a a
NeverFall-none a = record { faults = omega arith; stalls = omega arith; ends = omega arith }

pub raised-then : (count more most : ℕ) → raised (raised count more) most ≡ raised count (more + most)
raised-then count more most = omega arith

pub raised-none : (count : ℕ) → count ≡ raised count 0
raised-none count = omega arith
