-- The words of a command line that ask for a soak.
use Rattle.std.specs.Prelude.{◌≡◌, ◌≤◌, ◌-◌, ◌^◌, ℕ, List, [], ◌∷◌, codes, Option, MatchOption}
use Rattle.std.specs.Fmt.{decimal}
use Rattle.ch_soak.specs.declared.limits.TheConstants.{FEWEST_LINES, MOST_LINES}
use Rattle.ch_soak.specs.declared.words.Soak.{Soak}

-- the word is a number from `least` to `most`, in decimal
abbrev pub Spells : List ℕ → ℕ → ℕ → ℕ → Type 0
Spells word least most n = (least ≤ n) × (n ≤ most) × (word ≡ decimal n)

-- this is what the word is read as: the number that it is, or none
abbrev pub IsReading : List ℕ → ℕ → ℕ → Option ℕ → Type 0
IsReading word least most reading = MatchOption reading ((n : ℕ) → Spells word least most n → ⊥) (Spells word least most)

-- the words are `soak`, a seed of 64 bits, and a number of lines from `FEWEST_LINES` to `MOST_LINES`
pub record AsksFor (words : List (List ℕ)) (soak : Soak) : Type 0 where
  pub seed : List ℕ
  pub lines : List ℕ
  pub words_are : words ≡ codes "soak" ∷ seed ∷ lines ∷ []
  pub spells_seed : Spells seed 0 (2 ^ 64 - 1) soak.seed
  pub spells_lines : Spells lines FEWEST_LINES MOST_LINES soak.lines

-- the words ask for no soak
abbrev pub AsksForNone : List (List ℕ) → Type 0
AsksForNone words = (soak : Soak) → AsksFor words soak → ⊥

-- this is the soak that the words ask for, or they ask for none
abbrev pub IsSoak : List (List ℕ) → Option Soak → Type 0
IsSoak words reading = MatchOption reading (AsksForNone words) (AsksFor words)
