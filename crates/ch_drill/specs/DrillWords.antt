-- The words of a command line that ask for a drill.
use Rattle.std.specs.Prelude.{◌≡◌, ◌≤◌, ℕ, List, [], ◌∷◌, codes, Option, MatchOption}
use Rattle.std.specs.Fmt.{decimal}
use Rattle.ch_drill.specs.declared.limits.TheConstants.{MOST_ROUNDS, MOST_WORKERS}
use Rattle.ch_drill.specs.declared.words.Drill.{Drill}

-- the word is a number from 1 to `most`, in decimal
abbrev pub Spells : List ℕ → ℕ → ℕ → Type 0
Spells word most n = (1 ≤ n) × (n ≤ most) × (word ≡ decimal n)

-- this is what the word is read as: the number that it is, or none
abbrev pub IsReading : List ℕ → ℕ → Option ℕ → Type 0
IsReading word most reading = MatchOption reading ((n : ℕ) → Spells word most n → ⊥) (Spells word most)

-- the words are `drill`, a number of workers from 1 to `MOST_WORKERS`, and a number of rounds from 1 to `MOST_ROUNDS`
pub record AsksFor (words : List (List ℕ)) (drill : Drill) : Type 0 where
  pub workers : List ℕ
  pub rounds : List ℕ
  pub words_are : words ≡ codes "drill" ∷ workers ∷ rounds ∷ []
  pub spells_workers : Spells workers MOST_WORKERS drill.workers
  pub spells_rounds : Spells rounds MOST_ROUNDS drill.rounds

-- this is the drill that the words ask for, or they ask for none
abbrev pub IsDrill : List (List ℕ) → Option Drill → Type 0
IsDrill words reading = MatchOption reading ((drill : Drill) → AsksFor words drill → ⊥) (AsksFor words)
