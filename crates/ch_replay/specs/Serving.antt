-- What the service of one line gives, and what is written at the end.
use Rattle.std.specs.Prelude.{◌≡◌, ℕ, List, [], take, Option, Some, None, ◌⊎◌}
use Rattle.std.specs.Io.KnownBytes.{Appends}
use Rattle.ch_config.specs.declared.config.Config.{Config}
use Rattle.ch_outcomes.specs.Answered.{Refusal, IsReadTo}
use Rattle.ch_transcript.specs.Printing.{error_line, long_line}
use Rattle.ch_io.specs.Writes.{WritesLast}
use Rattle.ch_transcript.specs.Progress.{Played}
use Rattle.ch_transcript.specs.declared.ending.Ending.{Ending}
use Rattle.ch_transcript.specs.declared.ending.Ending.TheVariants.{NotALine, LongLine, WriteFailed, Memory}
use Rattle.ch_player.specs.declared.player.Player.{Player}
use Rattle.ch_player.specs.Playing.{IsAt}

-- the line is one of these: its output was written
pub record Serves (player : Player) (told_old told_new : Option (List ℕ)) (Is : Option Played → Type 0) : Type 0 where
  pub played : Played
  pub is : Is (Some played)
  pub gained : Appends told_old told_new played.text
  pub next : IsAt player played.next

-- the line is one of these: a front of its output was written
pub record Breaks (told_old told_new : Option (List ℕ)) (Is : Option Played → Type 0) : Type 0 where
  pub played : Played
  pub is : Is (Some played)
  pub count : ℕ
  pub gained : Appends told_old told_new (take count played.text)

-- the line was not served
abbrev pub Stops : Ending → Option (List ℕ) → Option (List ℕ) → (Option Played → Type 0) → Type 0
Stops NotALine told_old told_new Is = Is None × Appends told_old told_new []
Stops WriteFailed told_old told_new Is = Breaks told_old told_new Is
Stops Memory told_old told_new Is = Appends told_old told_new []
Stops _ told_old told_new Is = ⊥

-- the line is named last, unless there is no memory for that
abbrev pub NamesBy : List ℕ → Ending → Ending → Option (List ℕ) → Option (List ℕ) → Type 0 → Type 0
NamesBy line wanted result told_old told_new write_failed =
    ((result ≡ wanted) × WritesLast line told_old told_new write_failed) ⊎ ((result ≡ Memory) × Appends told_old told_new [])

-- how the replay ends where a line ends it
abbrev pub EndsAt : Ending → ℕ → Ending → Option (List ℕ) → Option (List ℕ) → Type 0 → Type 0
EndsAt NotALine number result told_old told_new write_failed = NamesBy (error_line number) NotALine result told_old told_new write_failed
EndsAt LongLine number result told_old told_new write_failed = NamesBy (long_line number) LongLine result told_old told_new write_failed
EndsAt ending number result told_old told_new write_failed = (result ≡ ending) × Appends told_old told_new []

-- what a line that is named at the end was, where one is
abbrev pub Names : Config → Option (List ℕ) → Option (List ℕ) → (Sink : Type 0) → (Sink → Option (List ℕ)) → (Sink → ℕ) → Sink → Sink → Ending → Type 0
Names config left_old left_new Sink told faults old new NotALine =
    (r : Refusal config 4 error_line left_old left_new Sink told faults old new) × IsReadTo r.number r.read left_new
Names config left_old left_new Sink told faults old new LongLine = Refusal config 8 long_line left_old left_new Sink told faults old new
Names config left_old left_new Sink told faults old new _ = Unit {0}
