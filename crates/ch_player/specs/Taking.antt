-- A session that is taken out of its seat for its turn, and put back.
use Rattle.std.specs.Prelude.{◌≡◌, ◌≢◌, ℕ, ◌+◌, ◌<◌, true, List, length, slice_index_or, Option, Some, None}
use Rattle.ch_session.specs.Kept.{Kept}
use Rattle.ch_transcript.specs.Progress.{Socket, no_socket}
use Rattle.ch_player.specs.Seats.{IsSeatOf}
use Rattle.ch_player.specs.declared.seat.Seat.{Seat}

-- the seat of a session, which is open
abbrev pub seat_of : Option Kept → Option Seat
seat_of None = None
seat_of (Some session) = Some (record { session = session; is_open = true })

-- the seats are those of the sockets, but for this one, whose seat is empty
pub record AreSeatsBut (number : ℕ) (seats : List (Option Seat)) (sockets : List Socket) : Type 0 where
  pub count : length seats ≡ length sockets
  pub each : (i : ℕ) → i < length sockets → i + 1 ≢ number → IsSeatOf (i + 1) (slice_index_or seats i None) (slice_index_or sockets i no_socket)
