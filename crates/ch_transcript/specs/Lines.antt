-- The lines of a transcript: each ends in a line end, but the last one may lack its own.
use Rattle.std.specs.Prelude.{ℕ, Bool, ◌==◌, List, [], ◌∷◌, if◌then◌else◌}
use Rattle.std.specs.List.{list_any}

-- whether the byte stands among these
abbrev pub has_byte : ℕ → List ℕ → Bool
has_byte x bytes = list_any (λ b. b == x) bytes

-- whether a line ends among the bytes
abbrev pub has_line_end : List ℕ → Bool
has_line_end bytes = has_byte 10 bytes

-- the lines with one more byte at the front of the first
abbrev pub onto_first : ℕ → List (List ℕ) → List (List ℕ)
onto_first b [] = (b ∷ []) ∷ []
onto_first b (line ∷ lines) = (b ∷ line) ∷ lines

-- the lines, without their line ends
abbrev pub lines_of : List ℕ → List (List ℕ)
lines_of [] = []
lines_of (b ∷ bytes) = if b == 10 then [] ∷ lines_of bytes else onto_first b (lines_of bytes)

-- the bytes up to the last line end
abbrev pub whole_lines : List ℕ → List ℕ
whole_lines [] = []
whole_lines (b ∷ bytes) = if has_line_end (b ∷ bytes) then b ∷ whole_lines bytes else []
