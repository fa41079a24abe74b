-- What one socket's turn writes, and how the socket and the shards are then: a text that is heard, or silence.
use Rattle.std.specs.Prelude.{ℕ, ◌+◌, List, [], ◌∷◌, ◌++◌, Ok}
use Rattle.ch_base.specs.declared.frame.Frame.TheVariants as frame
use Rattle.ch_base.specs.declared.error_codes.TheConstants.{NO_PONG}
use Rattle.ch_config.specs.declared.config.Config.{Config}
use Rattle.ch_rate.specs.Quiet.{quiet_from, due_of, quiet_after}
use Rattle.ch_rate.specs.declared.activity.Due.{Due}
use Rattle.ch_rate.specs.declared.activity.Due.TheVariants as due
use Rattle.ch_protocol.specs.ClientMessages.{Verdict}
use Rattle.ch_protocol.specs.Readings.{Reading}
use Rattle.ch_protocol.specs.declared.client_message.ClientMessage.TheVariants.{SignIn}
use Rattle.ch_protocol.specs.Sessions.{Session, judged, outcome}
use Rattle.ch_protocol.specs.Settling.{settled_with}
use Rattle.ch_protocol.specs.Shards.{Shards, made_of, after_ask, loses}
use Rattle.ch_protocol.specs.declared.ask.Ask.{Ask}
use Rattle.ch_protocol.specs.declared.ask.Made.{Made}
use Rattle.ch_protocol.specs.declared.heard.Heard.{Heard}
use Rattle.ch_protocol.specs.declared.heard.Heard.TheVariants as heard
use Rattle.ch_protocol.specs.declared.heard.Settled.{Settled}
use Rattle.ch_protocol.specs.declared.heard.Settled.TheVariants as settled
use Rattle.ch_transcript.specs.Printing.{frame_line, end_lines}
use Rattle.ch_transcript.specs.declared.start.TheConstants.{START_SECOND}
use Rattle.ch_transcript.specs.Progress.{Socket, closed}

-- what a socket's command writes, and how the socket and the shards are then
pub record Turn : Type 0 where
  pub text : List ℕ
  pub socket : Socket
  pub shards : Shards

-- this is written, and nothing changes
abbrev pub writes : List ℕ → Socket → Shards → Turn
writes text s shards = record { text = text; socket = s; shards = shards }

-- this is written before
abbrev pub after_turn : List ℕ → Turn → Turn
after_turn text t = record { text = text ++ t.text; socket = t.socket; shards = t.shards }

-- the connection ends, and its losses are made; this is written
abbrev pub ends_turn : List ℕ → ℕ → ℕ → Socket → Shards → Turn
ends_turn text number at s shards = record {
  text = text;
  socket = closed s;
  shards = loses number at s.asks shards;
}

-- it ends with a code, which the socket is told
abbrev pub ends_with : ℕ → ℕ → ℕ → Socket → Shards → Turn
ends_with code number at s shards = ends_turn (end_lines number code) number at s shards

-- the socket after an ask was settled with this answer
abbrev pub settled_socket : ℕ → Ask → Made → Socket → Socket
settled_socket at ask answer s =
    record { is_open = s.is_open; quiet = s.quiet; asks = settled_with s.asks ask answer at }

-- what a settled ask means: the asks after it are made, unless it refuses or ends
abbrev pub goes_on : ℕ → ℕ → Settled → Socket → Shards → (Socket → Shards → Turn) → Turn
goes_on number at settled.Nothing s shards more = more s shards
goes_on number at (settled.Reply frame) s shards more = after_turn (frame_line number frame) (more s shards)
goes_on number at (settled.Refuse code) s shards more = writes (frame_line number (frame.Error code)) s shards
goes_on number at (settled.End code) s shards more = ends_with code number at s shards

-- an ask's call is made on its shard, and the ask is settled with the answer; user_data: those of the
-- message that is a sign-in
abbrev pub asks_one : ℕ → ℕ → List ℕ → ℕ → Ask → Socket → Shards → (Socket → Shards → Turn) → Turn
asks_one number at user_data place ask s shards more =
    goes_on number at (outcome user_data place (made_of shards ask))
    (settled_socket at ask (made_of shards ask) s) (after_ask shards ask) more

-- the asks from a place on are made one after another
abbrev pub asks_all : ℕ → ℕ → List ℕ → ℕ → List Ask → Socket → Shards → Turn
asks_all number at user_data place [] s shards = writes [] s shards
asks_all number at user_data place (ask ∷ asks) s shards =
    asks_one number at user_data place ask s shards (asks_all number at user_data (place + 1) asks)

abbrev pub does : ℕ → ℕ → List ℕ → Heard → Socket → Shards → Turn
does number at user_data heard.Nothing s shards = writes [] s shards
does number at user_data (heard.Reply frame) s shards = writes (frame_line number frame) s shards
does number at user_data (heard.Refuse code) s shards = writes (frame_line number (frame.Error code)) s shards
does number at user_data (heard.End code) s shards = ends_with code number at s shards
does number at user_data (heard.Ask asks) s shards = asks_all number at user_data 0 asks s shards

-- the session of a socket at the moment
abbrev pub session_of : Config → ℕ → ℕ → Socket → Session
session_of config number at s =
    record { config = config; start = START_SECOND; number = number; asks = s.asks; now = at }

-- the socket was heard at the moment
abbrev pub heard_socket : ℕ → Socket → Socket
heard_socket at s = record { is_open = s.is_open; quiet = quiet_from at; asks = s.asks }

-- the user's data of a sign-in
abbrev pub data_of : Verdict → List ℕ
data_of (Ok (SignIn auth user_data)) = user_data
data_of _ = []

-- the socket's text is heard, which is read so
abbrev pub hears : Config → ℕ → ℕ → Reading → Socket → Shards → Turn
hears config number at r s shards =
    does number at (data_of r.verdict) (judged (session_of config number at s) r) (heard_socket at s) shards

-- what is due is done
abbrev pub ticks_as : ℕ → ℕ → Due → Socket → Shards → Turn
ticks_as number at due.Nothing s shards = writes [] s shards
ticks_as number at due.Ping s shards = writes (frame_line number frame.Ping) s shards
ticks_as number at due.Expired s shards = ends_with NO_PONG number at s shards

abbrev pub ticks : ℕ → ℕ → Socket → Shards → Turn
ticks number at s shards =
    ticks_as number at (due_of s.quiet at)
    (record { is_open = s.is_open; quiet = quiet_after s.quiet at; asks = s.asks }) shards
