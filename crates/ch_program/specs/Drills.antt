-- A drill, by its words.
use Rattle.std.specs.Prelude.{◌≡◌, true, ℕ, List, Option, None}
use Rattle.std.specs.Io.KnownBytes.{Appends}
use Rattle.ch_drill.specs.DrillRuns.{WritesFront, is_status}
use Rattle.ch_drill.specs.DrillText.{drill_text, usage_line}
use Rattle.ch_drill.specs.DrillWords.{AsksFor, IsDrill}
use Rattle.ch_drill.specs.declared.words.Drill.{Drill}
use Rattle.ch_io.specs.Writes.{WritesLast}

-- The counts of the closed house are those of the definition and were written, or the status tells why they weren't.
pub record Drills (words : List (List ℕ)) (status : ℕ) (told_old told_new : Option (List ℕ)) (write_failed : Type 0) : Type 0 where
  pub statuses : is_status status ≡ true
  pub done : status ≡ 0 → (drill : Drill) × AsksFor words drill × Appends told_old told_new (drill_text drill)
  pub no_drill : status ≡ 2 → IsDrill words None
  pub usage : status ≡ 2 → WritesLast usage_line told_old told_new write_failed
  pub cut : status ≡ 6 → (drill : Drill) × AsksFor words drill × WritesFront (drill_text drill) told_old told_new
