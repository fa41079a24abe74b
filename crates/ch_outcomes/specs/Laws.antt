-- That a transcript has one outcome.
use Rattle.std.specs.Prelude.{◌≡◌, ℕ, List, Option}
use Rattle.ch_config.specs.declared.config.Config.{Config}
use Rattle.ch_transcript.specs.Outcomes.{Plays, Outcome, HasOutcome}
use Rattle.ch_transcript.specs.Progress.{Progress, Played}

-- a line does at most one thing where it stands
abbrev pub OnePlay : Type 0
OnePlay = (config : Config) (p : Progress) (line : List ℕ) (a b : Option Played) → Plays config p line a → Plays config p line b → a ≡ b

-- a transcript has at most one outcome for a configuration
abbrev pub OneOutcome : Type 0
OneOutcome = (config : Config) (bytes : List ℕ) (a b : Outcome) → HasOutcome config bytes a → HasOutcome config bytes b → a ≡ b
