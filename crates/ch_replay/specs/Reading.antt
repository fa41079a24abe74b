-- What the reader of lines gives.
use Rattle.std.specs.Prelude.{◌≡◌, ℕ, false, ◌+◌, ◌<◌, ◌≤◌, List, [], ◌∷◌, ◌++◌, length, Option}
use Rattle.std.specs.Io.KnownBytes.{Consumes, IsAtEnd}
use Rattle.ch_transcript.specs.Lines.{has_line_end}
use Rattle.ch_transcript.specs.declared.limits.TheConstants.{LONGEST_LINE}
use Rattle.ch_replay.specs.declared.line_reader.Next.{Next}
use Rattle.ch_replay.specs.declared.line_reader.Next.TheVariants.{Whole, Last, Ended, Long, Failed, Memory}

-- the bytes before a line end are taken, and the line end is passed over
pub record TakesToEnd (old new line_old line_new : List ℕ) : Type 0 where
  pub front : List ℕ
  pub split : old ≡ front ++ 10 ∷ new
  pub none_before : has_line_end front ≡ false
  pub line : line_new ≡ line_old ++ front

-- no line end stands there, and all the bytes are taken
pub record TakesAll (old new line_old line_new : List ℕ) : Type 0 where
  pub none : has_line_end old ≡ false
  pub empty : new ≡ []
  pub line : line_new ≡ line_old ++ old

-- what was read, with what was held before: seen; the line that is given, and what is held then
abbrev pub NextGives : Next → List ℕ → List ℕ → List ℕ → Type 0
NextGives Whole seen line new = (seen ≡ line ++ 10 ∷ new) × (has_line_end line ≡ false) × (length line ≤ LONGEST_LINE)
NextGives Last seen line new = (seen ≡ line) × (has_line_end line ≡ false) × (length line ≤ LONGEST_LINE) × (0 < length line)
NextGives Ended seen line new = seen ≡ []
NextGives Long seen line new = ((more : List ℕ) × (seen ≡ line ++ more)) × (has_line_end line ≡ false) × (LONGEST_LINE < length line)
NextGives Failed seen line new = (seen ≡ line) × (has_line_end line ≡ false)
NextGives Memory seen line new = Unit {0}

-- the source is at its end after these
abbrev pub IsEnd : Next → Type 0 → Type 0
IsEnd Last p = p
IsEnd Ended p = p
IsEnd _ p = Unit {0}

-- one call of the reader, and the bytes that it read
pub record ReadsLine (left_old left_new : Option (List ℕ)) (limit_old limit_new : ℕ) (old : List ℕ) (result : Next) (line new : List ℕ) : Type 0 where
  pub bytes : List ℕ
  pub consumed : Consumes left_old left_new bytes
  pub limit : length bytes + limit_new ≤ limit_old
  pub gives : NextGives result (old ++ bytes) line new
  pub ended : IsEnd result (IsAtEnd left_new)
