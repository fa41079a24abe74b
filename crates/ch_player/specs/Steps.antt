-- What the commands of a line write.
use Rattle.std.specs.Prelude.{◌≡◌, ℕ, Bool, ◌&&◌, ◌++◌, List, [], Option, Some, None, if◌then◌else◌}
use Rattle.ch_config.specs.declared.config.Config.{Config}
use Rattle.ch_rate.specs.Quiet.{quiet_from}
use Rattle.ch_protocol.specs.Readings.{Reading}
use Rattle.ch_session.specs.Kept.{Kept}
use Rattle.ch_base.specs.declared.channel.ChanCall.{ChanCall}
use Rattle.ch_base.specs.declared.channel.ChanAnswer.{ChanAnswer}
use Rattle.ch_desk.specs.Bench.{BenchModel}
use Rattle.ch_history.specs.Answers.{answer_of}
use Rattle.ch_backend.specs.Exchanges.{IsExchange}
use Rattle.ch_player.specs.Benches.{IsAtShards}
use Rattle.ch_socket.specs.Sockets.{IsSocketOf}
use Rattle.ch_protocol.specs.Shards.{Shards, calls}
use Rattle.ch_transcript.specs.Exchanges.{Exchange, of_exchange}
use Rattle.ch_transcript.specs.Obeying.{Sense, Hears, Means, of_socket, obeyed, opening_lines, is_accepted, IsJudged, may_except, publishes}
use Rattle.ch_transcript.specs.Progress.{Progress, Played, Socket}
use Rattle.ch_transcript.specs.Rounds.{rounded}
use Rattle.ch_transcript.specs.Turns.{Turn, hears}
use Rattle.ch_transcript.specs.declared.commands.Command.{Command}

-- the socket as it is opened, or refused
abbrev pub new_socket : ℕ → Option ℕ → Socket
new_socket at refusal = record { is_open = is_accepted refusal; quiet = quiet_from at; asks = [] }

-- the next connection was opened, or refused: the socket is told so
pub record Greets (number at : ℕ) (refusal : Option ℕ) (old new : List ℕ) (session : Option Kept) : Type 0 where
  pub text : new ≡ old ++ opening_lines number refusal
  pub socket : IsSocketOf number session (new_socket at refusal)

-- what a socket's turn writes
abbrev pub TurnOf : Progress → ℕ → (Socket → Shards → Turn) → Option Played → Type 0
TurnOf p number turn x = x ≡ of_socket p number turn

-- what a socket writes that hears a text
abbrev pub HearsOf : Config → Progress → ℕ → ℕ → List ℕ → Option Played → Type 0
HearsOf config p at number text x = (r : Reading) × Hears p number text r × (x ≡ of_socket p number (hears config number at r))

-- what a command writes of its own
abbrev pub Obeys : Config → Progress → ℕ → Command → Option Played → Type 0
Obeys config p at command x = (s : Sense) × Means config p at command s × (x ≡ obeyed config p at command s)

-- and with the rounds after it
abbrev pub ObeysWhole : Config → Progress → ℕ → Command → Option Played → Type 0
ObeysWhole config p at command x =
    (s : Sense) × Means config p at command s × (x ≡ rounded config (obeyed config p at command s))

-- what a Publish writes; none where its body is no JSON string, or the excepted socket isn't there
abbrev pub Publishes : Config → Progress → ℕ → List ℕ → List ℕ → List ℕ → Option ℕ → Option Played → Type 0
Publishes config p at channel event body except x =
    (is_string : Bool) × IsJudged body is_string
    × (x ≡ (if is_string && may_except p except then Some (publishes config p at channel event body except) else None))

-- what the bytes of a request write
abbrev pub ExchangesOf : Config → Progress → ℕ → List ℕ → Option Played → Type 0
ExchangesOf config p at bytes x = (e : Exchange) × IsExchange config at bytes p.shards e × (x ≡ Some (of_exchange p e))

-- whether a Publish may stand: its body is a JSON string, and the excepted socket is there
abbrev pub MayPublish : Progress → List ℕ → Option ℕ → Bool → Type 0
MayPublish p body except may = (is_string : Bool) × IsJudged body is_string × (may ≡ (is_string && may_except p except))

-- the call was made on the shard k, and this is its answer
pub record Asked (k : ℕ) (call : ChanCall) (bench : BenchModel) (shards : Shards) (answer : ChanAnswer) : Type 0 where
  pub answered : answer ≡ answer_of (shards.chans k) 0 call
  pub at_shards : IsAtShards bench (calls shards k call)
