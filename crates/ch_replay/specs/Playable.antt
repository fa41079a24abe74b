-- Transcripts of which no line is refused.
use Rattle.std.specs.Prelude.{◌≡◌, ℕ, List}
use Rattle.ch_config.specs.declared.config.Config.{Config}
use Rattle.ch_transcript.specs.Outcomes.{Outcome, HasOutcome}

abbrev pub IsPlayable : Config → List ℕ → Type 0
IsPlayable config bytes = (o : Outcome) → HasOutcome config bytes o → o.status ≡ 0
