-- For what a session stands in the fold of a transcript, and what a socket's turn leaves.
use Rattle.std.specs.Prelude.{◌≡◌, ℕ, true, false, List, ◌++◌, Option, Some, None}
use Rattle.ch_config.specs.declared.config.Config.{Config}
use Rattle.ch_desk.specs.AloneCalls.{IsAt}
use Rattle.ch_desk.specs.Views.{DeskView}
use Rattle.ch_session.specs.Kept.{Kept, IsSession, HasShardsOf}
use Rattle.ch_session.specs.declared.waiting.Waiting.TheVariants.{Nothing}
use Rattle.ch_transcript.specs.declared.start.TheConstants.{START_SECOND}
use Rattle.ch_transcript.specs.Progress.{Socket}
use Rattle.ch_transcript.specs.Turns.{Turn}

-- the session has this number and is over the shards of the configuration; no ask waits, and no loss was made
pub record IsReady (config : Config) (number : ℕ) (session : Kept) : Type 0 where
  pub over : HasShardsOf session config
  pub numbered : session.number ≡ number
  pub idle : session.waits ≡ Nothing
  pub owes : session.lost ≡ 0

-- the session is that of the open socket with this number
pub record IsOpen (number : ℕ) (kept : Kept) (s : Socket) : Type 0 where
  pub lives : s.is_open ≡ true
  pub session : IsSession kept START_SECOND number s.asks
  pub quiet : kept.quiet ≡ s.quiet

-- an open socket has its session, and one whose connection ended has none
abbrev pub IsSocketOf : ℕ → Option Kept → Socket → Type 0
IsSocketOf number None s = s.is_open ≡ false
IsSocketOf number (Some session) s = IsOpen number session s

-- the turn was taken: its text is added to the output, and session and desk have come so far
pub record TakesTurn (number : ℕ) (session : Option Kept) (desk : DeskView) (old new : List ℕ) (t : Turn) : Type 0 where
  pub text : new ≡ old ++ t.text
  pub socket : IsSocketOf number session t.socket
  pub shards : IsAt desk t.shards
