-- A socket's turn before its losses are made.
use Rattle.std.specs.Prelude.{◌≡◌, ◌++◌, ℕ, Bool, true, false, List, Option, Some, None}
use Rattle.ch_config.specs.declared.config.Config.{Config}
use Rattle.ch_desk.specs.AloneCalls.{IsAt}
use Rattle.ch_desk.specs.Views.{DeskView, IsDeskOf}
use Rattle.ch_dispatch.specs.Hearing.{Hears}
use Rattle.ch_dispatch.specs.Losses.{MakesLosses}
use Rattle.ch_dispatch.specs.declared.response.Response.{Response}
use Rattle.ch_protocol.specs.Asks.{Asked}
use Rattle.ch_protocol.specs.Readings.{Reading, Reads}
use Rattle.ch_protocol.specs.Shards.{Shards, loses}
use Rattle.ch_session.specs.Kept.{Kept}
use Rattle.ch_socket.specs.Sockets.{IsReady, IsOpen, TakesTurn}
use Rattle.ch_transcript.specs.Progress.{Socket}
use Rattle.ch_transcript.specs.Turns.{Turn, hears}

-- the session is ready, over the shards of the desk
pub record MayTurn (number : ℕ) (session : Kept) (desk : DeskView) : Type 0 where
  pub config : Config
  pub ready : IsReady config number session
  pub shards : IsDeskOf config desk

-- the turn ends the connection: its text is added to the output, and the losses of the socket are still to be made
pub record Owes (number at : ℕ) (session : Kept) (desk : DeskView) (old new : List ℕ) (t : Turn) : Type 0 where
  pub text : new ≡ old ++ t.text
  pub s : Socket
  pub shards : Shards
  pub socket : IsOpen number session s
  pub at_shards : IsAt desk shards
  pub ended : t.socket.is_open ≡ false
  pub lost : t.shards ≡ loses number at s.asks shards

-- the turn was taken, where the connection goes on; else its losses are still to be made
abbrev pub TakesPart : Bool → ℕ → ℕ → Kept → DeskView → List ℕ → List ℕ → Turn → Type 0
TakesPart true number at session desk old new t = TakesTurn number (Some session) desk old new t
TakesPart false number at session desk old new t = Owes number at session desk old new t

-- the text is read in some way, and the turn is that of hearing it
abbrev pub HearsAs : Config → ℕ → ℕ → List ℕ → Socket → Shards → Option Kept → DeskView → List ℕ → List ℕ → Type 0
HearsAs config number at text s shards session desk old new =
    (r : Reading) × Reads text r × TakesTurn number session desk old new (hears config number at r s shards)

-- the caller's own calls are losses of the session, the next ones that it owes, in order; none where its connection goes on
abbrev pub LosesAt : ℕ → Kept → DeskView → DeskView → Type 0
LosesAt at session old new = (lost : List Asked) × (left : Kept) × MakesLosses at lost session left old new

-- the caller's own calls are the asks of the text, as it was heard, and then losses of the session
pub record MakesCalls (config : Config) (at : ℕ) (text : List ℕ) (session : Kept) (old new : DeskView) : Type 0 where
  pub asked : List Asked
  pub response : Response
  pub heard : Kept
  pub between : DeskView
  pub hears : Hears config at text asked (record { session = session; desk = old }) (record { session = heard; desk = between }) response
  pub loses : LosesAt at heard between new

-- the same of a session whose silence was noted
abbrev pub LosesOnTick : ℕ → Kept → DeskView → DeskView → Type 0
LosesOnTick at session old new = (ticked : Kept) × (ticked ≡ record session { quiet = ticked.quiet }) × LosesAt at ticked old new

-- the session that is left, if there is one, is ready
abbrev pub StaysReady : Config → ℕ → Option Kept → Type 0
StaysReady config number None = Unit {0}
StaysReady config number (Some session) = IsReady config number session
