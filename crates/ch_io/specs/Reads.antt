-- What a read of a source gives.
use Rattle.std.specs.Prelude.{ℕ, ◌<◌, ◌≤◌, List, [], Option, length, take}
use Rattle.ch_io.specs.declared.source.Got.{Got}
use Rattle.ch_io.specs.declared.source.Got.TheVariants.{Read, Ended, Failed}

-- the bytes that a read gave, by its answer and the buffer after it
abbrev pub given : Got → List ℕ → List ℕ
given (Read n) buf = take n buf
given Ended buf = []
given Failed buf = []

-- a read gives at least one byte, and no more than the buffer holds
abbrev pub IsWithin : Got → List ℕ → Type 0
IsWithin (Read n) buf = (0 < n) × (n ≤ length buf)
IsWithin Ended buf = Unit {0}
IsWithin Failed buf = Unit {0}

-- what a source tells: the bytes that are left, where they are known, the count of faults, and how many more it gives at most
pub record SourceTold : Type 0 where
  pub left : Option (List ℕ)
  pub faults : ℕ
  pub limit : ℕ
