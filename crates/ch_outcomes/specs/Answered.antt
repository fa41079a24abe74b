-- What a replay answers and writes, by the outcome of its transcript.
use Rattle.std.specs.Prelude.{◌≡◌, ◌⊎◌, ◌≤◌, ◌==◌, ℕ, List, ◌++◌, Option}
use Rattle.std.specs.List.{count_by}
use Rattle.std.specs.Io.KnownBytes.{Consumes, Appends, IsAtEnd}
use Rattle.ch_config.specs.declared.config.Config.{Config}
use Rattle.ch_io.specs.Counts.{Rose}
use Rattle.ch_io.specs.Writes.{WritesLast}
use Rattle.ch_transcript.specs.Outcomes.{Outcome, HasOutcome, ends}

-- ---- every transcript

-- The outcome's status is answered, and its text was written, or a front of it where a write failed; or a read or a write
-- failed, or memory ran out.
abbrev pub AnswersOutcome : Outcome → ℕ → Option (List ℕ) → Option (List ℕ) → Type 0 → Type 0
AnswersOutcome o status told_old told_new write_failed =
    ((status ≡ o.status) × WritesLast o.text told_old told_new write_failed) ⊎ (status ≡ 5) ⊎ (status ≡ 6) ⊎ (status ≡ 7)

-- ---- refused lines

-- how many lines end among the bytes
abbrev pub line_ends : List ℕ → ℕ
line_ends bytes = count_by (λ b. b == 10) bytes

-- A line is refused with this status, and named last. `before` is the sink as the name was about to be written: it had the
-- output of the lines before, and a name that is missing or cut is so by a write that failed from then on.
pub record Refusal (config : Config) (status : ℕ) (name : ℕ → List ℕ) (left_old left_new : Option (List ℕ)) (Sink : Type 0) (told : Sink → Option (List ℕ)) (faults : Sink → ℕ) (old new : Sink) : Type 0 where
  pub number : ℕ
  pub read : List ℕ
  pub front : List ℕ
  pub consumed : Consumes left_old left_new read
  pub judged : HasOutcome config read (ends status (front ++ name number))
  pub before : Sink
  pub later : faults old ≤ faults before
  pub gained : Appends (told old) (told before) front
  pub named : WritesLast (name number) (told before) (told new) (Rose (faults before) (faults new))

-- of what was read, so many lines came to their line ends, or the source came to its end
abbrev pub IsReadTo : ℕ → List ℕ → Option (List ℕ) → Type 0
IsReadTo number read left = IsAtEnd left ⊎ (number ≤ line_ends read)
