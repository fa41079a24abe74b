-- What a write to a sink takes.
use Rattle.std.specs.Prelude.{◌≡◌, ◌⊎◌, ℕ, ◌<◌, ◌≤◌, List, [], Option, length, take}
use Rattle.std.specs.Io.KnownBytes.{Appends}
use Rattle.ch_io.specs.declared.sink.Wrote.{Wrote as Answer}
use Rattle.ch_io.specs.declared.sink.Wrote.TheVariants.{Wrote, Failed}

-- the bytes that a write took
abbrev pub taken : Answer → List ℕ → List ℕ
taken (Wrote n) bytes = take n bytes
taken Failed bytes = []

-- a write takes at least one byte, and no more than there are
abbrev pub IsPart : Answer → List ℕ → Type 0
IsPart (Wrote n) bytes = (0 < n) × (n ≤ length bytes)
IsPart Failed bytes = Unit {0}

-- what a sink tells: the bytes that it holds, where they are known, and the count of faults
pub record SinkTold : Type 0 where
  pub held : Option (List ℕ)
  pub faults : ℕ

-- a line was written, or a front of it where a write failed
pub record WritesLast (line : List ℕ) (told_old told_new : Option (List ℕ)) (write_failed : Type 0) : Type 0 where
  pub count : ℕ
  pub gained : Appends told_old told_new (take count line)
  pub whole : (take count line ≡ line) ⊎ write_failed
