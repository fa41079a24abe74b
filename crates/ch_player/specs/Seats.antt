-- For what the player's seats stand: the seat at a place is that of the socket whose number is one more.
use Rattle.std.specs.Prelude.{◌≡◌, ℕ, ◌+◌, ◌<◌, false, List, ◌++◌, length, slice_index_or, Option, Some, None, IfSome, option_map}
use Rattle.ch_config.specs.declared.config.Config.{Config}
use Rattle.ch_session.specs.Kept.{Kept, IsSession}
use Rattle.ch_transcript.specs.declared.start.TheConstants.{START_SECOND}
use Rattle.ch_transcript.specs.Progress.{Socket, no_socket}
use Rattle.ch_transcript.specs.Rounds.{Telling}
use Rattle.ch_socket.specs.Sockets.{IsReady}
use Rattle.ch_player.specs.declared.seat.Seat.{Seat}

-- the seat is that of the socket with this number
pub record IsSeated (number : ℕ) (seat : Seat) (s : Socket) : Type 0 where
  pub lives : s.is_open ≡ seat.is_open
  pub session : IsSession seat.session START_SECOND number s.asks
  pub quiet : seat.session.quiet ≡ s.quiet

-- a socket without a seat isn't open
abbrev pub IsSeatOf : ℕ → Option Seat → Socket → Type 0
IsSeatOf number None s = s.is_open ≡ false
IsSeatOf number (Some seat) s = IsSeated number seat s

-- the seats are those of the sockets
pub record AreSeats (seats : List (Option Seat)) (sockets : List Socket) : Type 0 where
  pub count : length seats ≡ length sockets
  pub each : (i : ℕ) → i < length sockets → IsSeatOf (i + 1) (slice_index_or seats i None) (slice_index_or sockets i no_socket)

-- each session may hear: it has its number, no ask waits, and no loss was made
pub record AreReady (config : Config) (seats : List (Option Seat)) : Type 0 where
  pub each : (i : ℕ) → i < length seats → IfSome (slice_index_or seats i None) (λ seat. IsReady config (i + 1) seat.session)

abbrev pub session_in : Option Seat → Option Kept
session_in seat = option_map (λ s. s.session) seat

-- no session changed
pub record SameSessions (old new : List (Option Seat)) : Type 0 where
  pub count : length new ≡ length old
  pub each : (i : ℕ) → session_in (slice_index_or new i None) ≡ session_in (slice_index_or old i None)

-- frames were told: their text is added to the output, and the seats are those of the sockets then
pub record AddsTelling (now : List (Option Seat)) (old new : List ℕ) (t : Telling) : Type 0 where
  pub text : new ≡ old ++ t.text
  pub seats : AreSeats now t.sockets
