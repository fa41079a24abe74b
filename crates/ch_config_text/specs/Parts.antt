-- The parts of a text around the first of some byte.
use Rattle.std.specs.Prelude.{ℕ, List, ◌==◌, length, drop}
use Rattle.std.specs.List.{before_first, after_first}

abbrev pub before : ℕ → List ℕ → List ℕ
before mark text = before_first (λ b. b == mark) text

abbrev pub after : ℕ → List ℕ → List ℕ
after mark text = after_first (λ b. b == mark) text

-- what stands from the first one on
abbrev pub from_first : ℕ → List ℕ → List ℕ
from_first mark text = drop (length (before mark text)) text
