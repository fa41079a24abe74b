-- What a command writes of its own, by what its free text means.
use Rattle.std.specs.Prelude.{ℕ, ◌+◌, ◌&&◌, Bool, true, false, nat_lt, List, [], ◌∷◌, ◌++◌, length, Option, Some, None, MatchBool, if◌then◌else◌}
use Rattle.ch_base.specs.JsonText.{IsJsonString}
use Rattle.ch_base.specs.declared.channel.ChanCall.TheVariants.{Publish as PublishCall}
use Rattle.ch_base.specs.declared.frame.Frame.TheVariants as frame
use Rattle.ch_config.specs.declared.config.Config.{Config}
use Rattle.ch_history.specs.Answers.{answer_of}
use Rattle.ch_history.specs.Placement.{shard_of}
use Rattle.ch_rate.specs.Quiet.{quiet_from}
use Rattle.ch_protocol.specs.Readings.{Reading, Reads}
use Rattle.ch_protocol.specs.Shards.{Shards, calls}
use Rattle.ch_protocol.specs.Targets.{target_refusal}
use Rattle.ch_requests.specs.Replies.{refusal}
use Rattle.ch_requests.specs.declared.request.Look.{Look}
use Rattle.ch_requests.specs.declared.trigger.Trigger.{Trigger}
use Rattle.ch_transcript.specs.declared.limits.TheConstants.{MOST_OPENED}
use Rattle.ch_transcript.specs.declared.commands.Command.{Command}
use Rattle.ch_transcript.specs.declared.commands.Command.TheVariants.{Open, Say, Join, SignIn as SignInCommand, Lose, Tick, Publish, Tail, Api, Hooks, Http}
use Rattle.ch_transcript.specs.Joining.{join_text, sign_in_text}
use Rattle.ch_transcript.specs.Requests.{api_bytes}
use Rattle.ch_transcript.specs.Printing.{frame_line, end_lines, sent_line, tail_line}
use Rattle.ch_transcript.specs.Progress.{Socket, Progress, Played, quietly, has_socket, socket_of, is_live, with_socket}
use Rattle.ch_transcript.specs.Turns.{Turn, ends_turn, hears, ticks}
use Rattle.ch_transcript.specs.Exchanges.{exchanges, of_exchange, Comes}
use Rattle.ch_transcript.specs.Gathering.{gathers}

-- the socket's turn is taken
abbrev pub takes_turn : Progress → ℕ → Turn → Played
takes_turn p number t = record {
  text = t.text;
  next = record { at = p.at; sockets = with_socket p.sockets number t.socket; shards = t.shards; webhooks = p.webhooks };
}

-- a command of a socket, which has to be there; one whose connection ended does nothing more
abbrev pub of_socket : Progress → ℕ → (Socket → Shards → Turn) → Option Played
of_socket p number turn =
    if has_socket p.sockets number
    then Some (if is_live p.sockets number then takes_turn p number (turn (socket_of p.sockets number) p.shards) else quietly p)
    else None

-- what the next socket is told: its id, or the code that refuses its target
abbrev pub opening_lines : ℕ → Option ℕ → List ℕ
opening_lines number None = frame_line number (frame.Opened number)
opening_lines number (Some code) = end_lines number code

abbrev pub is_accepted : Option ℕ → Bool
is_accepted None = true
is_accepted (Some code) = false

-- the next connection is opened, or refused
abbrev pub opens : Progress → ℕ → Option ℕ → Option Played
opens p at refusal =
    if nat_lt (length p.sockets) MOST_OPENED
    then Some (record {
      text = opening_lines (length p.sockets + 1) refusal;
      next = record {
        at = p.at;
        sockets = p.sockets ++ record { is_open = is_accepted refusal; quiet = quiet_from at; asks = [] } ∷ [];
        shards = p.shards;
        webhooks = p.webhooks;
      };
    })
    else None

-- the call of a Publish is made, and its counts are written
abbrev pub publishes : Config → Progress → ℕ → List ℕ → List ℕ → List ℕ → Option ℕ → Played
publishes config p at channel event body except =
    let k = shard_of channel config.chan_shards in
    let call = PublishCall channel event body except at in
    record {
      text = sent_line (answer_of (p.shards.chans k) 0 call);
      next = record { at = p.at; sockets = p.sockets; shards = calls p.shards k call; webhooks = p.webhooks };
    }

-- an excepted socket has to be there, though it may have ended
abbrev pub may_except : Progress → Option ℕ → Bool
may_except p None = true
may_except p (Some number) = has_socket p.sockets number

abbrev pub tails : Config → Progress → ℕ → Option Played
tails config p k =
    if nat_lt k config.chan_shards then Some (record { text = tail_line (p.shards.chans k); next = p }) else None

-- What a command's free text means: how the text that a socket says is read, whether a body is a JSON string, what the bytes
-- of a request are, and which events its body triggers.
pub record Sense : Type 0 where
  pub reading : Reading
  pub is_string : Bool
  pub look : Look
  pub events : Option (List Trigger)

-- a text that an open connection hears is read so
abbrev pub Hears : Progress → ℕ → List ℕ → Reading → Type 0
Hears p number text r = MatchBool (is_live p.sockets number) (Reads text r) (Unit {0})

abbrev pub IsJudged : List ℕ → Bool → Type 0
IsJudged body is_string = MatchBool is_string (IsJsonString body) (IsJsonString body → ⊥)

-- the command means this at the moment
abbrev pub Means : Config → Progress → ℕ → Command → Sense → Type 0
Means config p at (Say number text) s = Hears p number text s.reading
Means config p at (Join number channel channel_data) s = Hears p number (join_text config number channel channel_data) s.reading
Means config p at (SignInCommand number user_data) s = Hears p number (sign_in_text config number user_data) s.reading
Means config p at (Publish channel event body except) s = IsJudged body s.is_string
Means config p at (Api method path query body) s = Comes config at (api_bytes config at method path query body) s.look s.events
Means config p at (Http bytes) s = Comes config at bytes s.look s.events
Means config p at _ s = Unit {0}

-- what a command writes of its own at the moment; none where it may not stand here
abbrev pub obeyed : Config → Progress → ℕ → Command → Sense → Option Played
obeyed config p at (Open target) s = opens p at (target_refusal config.key target)
obeyed config p at (Say number text) s = of_socket p number (hears config number at s.reading)
obeyed config p at (Join number channel channel_data) s = of_socket p number (hears config number at s.reading)
obeyed config p at (SignInCommand number user_data) s = of_socket p number (hears config number at s.reading)
obeyed config p at (Lose number) s = of_socket p number (ends_turn [] number at)
obeyed config p at (Tick number) s = of_socket p number (ticks number at)
obeyed config p at (Publish channel event body except) s =
    if s.is_string && may_except p except then Some (publishes config p at channel event body except) else None
obeyed config p at (Tail k) s = tails config p k
obeyed config p at (Api method path query body) s = Some (of_exchange p (exchanges config at s.look s.events p.shards))
obeyed config p at Hooks s = Some (gathers config p at)
obeyed config p at (Http bytes) s = Some (of_exchange p (exchanges config at s.look s.events p.shards))
