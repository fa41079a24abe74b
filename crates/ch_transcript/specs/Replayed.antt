-- What a replay has read and written, by how it ended.
use Rattle.std.specs.Prelude.{◌≡◌, ℕ, List, ◌++◌, ◌⊎◌, take, Option}
use Rattle.std.specs.Io.KnownBytes.{Consumes, Appends, IsAtEnd}
use Rattle.ch_transcript.specs.declared.ending.Ending.{Ending}
use Rattle.ch_transcript.specs.declared.ending.Ending.TheVariants.{Done, NotALine, LongLine, ReadFailed, WriteFailed, Memory}
use Rattle.ch_transcript.specs.Lines.{whole_lines}
use Rattle.ch_transcript.specs.Printing.{error_line, long_line}
use Rattle.ch_config.specs.declared.config.Config.{Config}
use Rattle.ch_transcript.specs.Outcomes.{HasOutcome, ends}

abbrev pub IsPrefix : List ℕ → List ℕ → Type 0
IsPrefix xs ys = (more : List ℕ) × (ys ≡ xs ++ more)

-- What was written is a front of the output of the first lines that were read: of whole lines, or of all lines where the
-- source is at its end.
pub record IsPart (config : Config) (at_end : Type 0) (read wrote : List ℕ) : Type 0 where
  pub lines : List ℕ
  pub front : IsPrefix lines read
  pub whole : (whole_lines lines ≡ lines) ⊎ (at_end × (lines ≡ read))
  pub text : List ℕ
  pub outcome : HasOutcome config lines (ends 0 text)
  pub prefix : IsPrefix wrote text

-- A line is refused, and named last. The outcome is that of what was read however the source goes on, where it isn't at
-- its end: so the refused line was read to its line end, or to the end of the source, or past the longest line.
pub record Refuses (config : Config) (status : ℕ) (name : ℕ → List ℕ) (at_end write_failed : Type 0) (read wrote : List ℕ) : Type 0 where
  pub number : ℕ
  pub front : List ℕ
  pub judged : HasOutcome config read (ends status (front ++ name number))
  pub settled : at_end ⊎ ((rest : List ℕ) → HasOutcome config (read ++ rest) (ends status (front ++ name number)))
  pub part : (k : ℕ) × (wrote ≡ front ++ take k (name number))
  pub whole : (wrote ≡ front ++ name number) ⊎ write_failed

-- what was read and written, by the ending
abbrev pub Reports : Config → Ending → Type 0 → Type 0 → List ℕ → List ℕ → Type 0
Reports config Done at_end write_failed read wrote = at_end × HasOutcome config read (ends 0 wrote)
Reports config NotALine at_end write_failed read wrote = Refuses config 4 error_line at_end write_failed read wrote
Reports config LongLine at_end write_failed read wrote = Refuses config 8 long_line at_end write_failed read wrote
Reports config ReadFailed at_end write_failed read wrote = HasOutcome config (whole_lines read) (ends 0 wrote)
Reports config WriteFailed at_end write_failed read wrote = IsPart config at_end read wrote
Reports config Memory at_end write_failed read wrote = IsPart config at_end read wrote

-- the bytes that a replay read from its source and wrote to its sink, where these tell them
pub record Ran (config : Config) (left_old left_new told_old told_new : Option (List ℕ)) (write_failed : Type 0) (ending : Ending) : Type 0 where
  pub read : List ℕ
  pub wrote : List ℕ
  pub consumed : Consumes left_old left_new read
  pub gained : Appends told_old told_new wrote
  pub says : Reports config ending (IsAtEnd left_new) write_failed read wrote

-- the status that an ending is told by
abbrev pub status_of : Ending → ℕ
status_of Done = 0
status_of NotALine = 4
status_of LongLine = 8
status_of ReadFailed = 5
status_of WriteFailed = 6
status_of Memory = 7
