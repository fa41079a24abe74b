-- What the player of a transcript stands for.
use Rattle.std.specs.Prelude.{◌≡◌, ℕ, List, ◌++◌, Option, Some, None}
use Rattle.ch_config.specs.declared.config.Config.{Config}
use Rattle.ch_player.specs.Benches.{IsAtShards}
use Rattle.ch_transcript.specs.Gathering.{batching_of}
use Rattle.ch_transcript.specs.Obeying.{Sense}
use Rattle.ch_transcript.specs.Outcomes.{MeansAs, played_as}
use Rattle.ch_transcript.specs.Progress.{Progress, Played}
use Rattle.ch_transcript.specs.Rounds.{Rounds}
use Rattle.ch_transcript.specs.declared.commands.Line.{Line}
use Rattle.ch_player.specs.Seats.{AreSeats, AreReady}
use Rattle.ch_player.specs.Rounding.{AllOpen}
use Rattle.ch_player.specs.declared.player.Player.{Player}
use Rattle.ch_player.specs.declared.line_fault.LineFault.{LineFault}
use Rattle.ch_player.specs.declared.line_fault.LineFault.TheVariants.{NotALine, Memory}

-- the configuration that serves
abbrev pub config_of : Player → Config
config_of player = player.config

-- the player has come so far
pub record IsAt (player : Player) (p : Progress) : Type 0 where
  pub at : player.at ≡ p.at
  pub seats : AreSeats player.seats.items p.sockets
  pub shards : IsAtShards player.bench p.shards
  pub webhooks : player.batcher.state ≡ batching_of player.config p.webhooks

-- its sessions may hear, and those that have a seat are open
pub record IsSoundPlayer (player : Player) : Type 0 where
  pub ready : AreReady player.config player.seats.items
  pub all_open : AllOpen player.seats.items

-- rounds were run: their text is added to the output, and the player has come so far
pub record RunsOn (player : Player) (old new : List ℕ) (p : Progress) (r : Rounds) : Type 0 where
  pub text : new ≡ old ++ r.text
  pub next : IsAt player (record { at = p.at; sockets = r.sockets; shards = r.shards; webhooks = p.webhooks })

-- one of these was played: its text is added to the output, and the player has come so far
pub record PlaysAs (player : Player) (old new : List ℕ) (Is : Option Played → Type 0) : Type 0 where
  pub played : Played
  pub is : Is (Some played)
  pub text : new ≡ old ++ played.text
  pub next : IsAt player played.next

-- a line is refused only where it is no transcript line here
abbrev pub IsRefused : LineFault → (Option Played → Type 0) → Type 0
IsRefused NotALine Is = Is None
IsRefused Memory Is = Unit {0}

-- what is no transcript line changes neither the player nor the output
abbrev pub IsUntouched : LineFault → Player → Player → List ℕ → List ℕ → Type 0
IsUntouched NotALine before after old new = (after ≡ before) × (new ≡ old)
IsUntouched Memory before after old new = Unit {0}

-- what a line that says this writes
abbrev pub PlaysLine : Config → Progress → Line → Option Played → Type 0
PlaysLine config p line x = (s : Sense) × MeansAs config p line s × (x ≡ played_as config p line s)
