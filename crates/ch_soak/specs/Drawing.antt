-- The transcript as a source.
use Rattle.std.specs.Prelude.{◌≡◌, ◌<◌, ◌-◌, ◌⊎◌, ℕ, List, ◌++◌, drop, length, string_bytes}
use Rattle.ch_soak.specs.Generator.{lines_from}
use Rattle.ch_soak.specs.declared.source.Drawn.{Drawn}

-- the bytes that are left: those of the line, and the lines after it
abbrev pub left_of : Drawn → List ℕ
left_of s = drop s.given (string_bytes s.line) ++ lines_from (s.lines - s.number) s.number s.state

-- a byte of the line is left, or no line
abbrev pub IsReady : Drawn → Type 0
IsReady s = (s.given < length (string_bytes s.line)) ⊎ (s.number ≡ s.lines)
