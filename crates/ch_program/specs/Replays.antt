-- A replay, by the words and the configuration that they name.
use Rattle.std.specs.Prelude.{◌≡◌, ◌↔◌, ℕ, true, false, List, [], ◌∷◌, Option, codes, IfOk, IfErr, IsErr}
use Rattle.ch_config.specs.declared.config.Config.{Config}
use Rattle.ch_given.specs.ConfigLines.{config_or_line, Declines}
use Rattle.ch_io.specs.Writes.{WritesLast}
use Rattle.ch_replay.specs.Words.{is_replay, usage_line}
use Rattle.ch_transcript.specs.declared.ending.Ending.{Ending}
use Rattle.ch_transcript.specs.Replayed.{Ran, status_of}

-- the words that ask for a replay under the built-in configuration
abbrev pub plain_replay : List (List ℕ)
plain_replay = codes "replay" ∷ []

-- a transcript was replayed under the configuration, and the status tells how that ended
abbrev pub RanUnder : Config → ℕ → Option (List ℕ) → Option (List ℕ) → Option (List ℕ) → Option (List ℕ) → Type 0 → Type 0
RanUnder config status left_old left_new told_old told_new write_failed =
    (ending : Ending) × (status ≡ status_of ending) × Ran config left_old left_new told_old told_new write_failed ending

-- The status by the words and the bytes of the configuration, with what was read and written.
pub record Replays (words : List (List ℕ)) (given : Option (List ℕ)) (status : ℕ) (left_old left_new told_old told_new : Option (List ℕ)) (write_failed : Type 0) : Type 0 where
  pub no_replay : (status ≡ 2) ↔ (is_replay words ≡ false)
  pub usage : status ≡ 2 → WritesLast usage_line told_old told_new write_failed
  pub refused : status ≡ 3 → (is_replay words ≡ true) × IsErr (config_or_line given)
  pub declined : is_replay words ≡ true → IfErr (config_or_line given) (λ line. Declines line status told_old told_new write_failed)
  pub ran : is_replay words ≡ true → IfOk (config_or_line given) (λ c. RanUnder c status left_old left_new told_old told_new write_failed)
