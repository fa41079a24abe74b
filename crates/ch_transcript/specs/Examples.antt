-- Lines with what they say and write, as a check of the definitions' text.
use Rattle.std.specs.Prelude.{◌≡◌, ℕ, true, List, [], ◌∷◌, ◌++◌, codes, Option, Some, None, Ok}
use Rattle.ch_config.specs.Config.{built_in}
use Rattle.ch_rate.specs.Quiet.{quiet_from}
use Rattle.ch_protocol.specs.declared.client_message.ClientMessage.TheVariants.{Subscribe}
use Rattle.ch_requests.specs.declared.request.Look.TheVariants.{Need}
use Rattle.ch_transcript.specs.Commands.{line_of}
use Rattle.ch_transcript.specs.Printing.{line_end}
use Rattle.ch_transcript.specs.Obeying.{Sense}
use Rattle.ch_transcript.specs.Outcomes.{played_as}
use Rattle.ch_transcript.specs.Progress.{Progress, Played, Socket, no_webhooks}
use Rattle.ch_transcript.specs.declared.commands.Command.TheVariants.{Open, Say, Join, Publish, Lose, Api, Hooks, Http}
use Rattle.ch_transcript.specs.declared.commands.Method.TheVariants.{Get, Post}
use Rattle.ch_transcript.specs.declared.commands.Line.{Line}
use Rattle.ch_transcript.specs.declared.commands.Line.TheVariants.{Skipped, Timed, Bad}

pub record Lines : Type 0 where
  pub empty : line_of [] ≡ Skipped
  pub comment : line_of (codes "# 1 x") ≡ Skipped
  pub no_command : line_of (codes "xyz") ≡ Bad
  pub leading_zero : line_of (codes "00 lose 1") ≡ Bad
  pub carriage_return : line_of (codes "0 lose 1\r") ≡ Bad
  pub target : line_of (codes "5 open /app/k") ≡ Timed 5 (Open (codes "/app/k"))
  pub empty_target : line_of (codes "5 open ") ≡ Timed 5 (Open [])
  pub no_target : line_of (codes "5 open") ≡ Bad
  pub said : line_of (codes "1 say 2  a ") ≡ Timed 1 (Say 2 (codes " a "))
  pub nothing_said : line_of (codes "1 say 2") ≡ Bad
  pub joined : line_of (codes "1 join 2 a {} ") ≡ Timed 1 (Join 2 (codes "a") (Some (codes "{} ")))
  pub no_channel : line_of (codes "1 join 2 a!") ≡ Bad
  pub posted : line_of (codes "1 api POST /p - {} ") ≡ Timed 1 (Api Post (codes "/p") [] (codes "{} "))
  pub gotten : line_of (codes "1 api GET /p a=1") ≡ Timed 1 (Api Get (codes "/p") (codes "a=1") [])
  pub no_query : line_of (codes "1 api GET /p") ≡ Bad
  pub other_method : line_of (codes "1 api PUT /p -") ≡ Bad
  pub question : line_of (codes "1 api GET /p? -") ≡ Bad
  pub hooks : line_of (codes "5 hooks") ≡ Timed 5 Hooks
  pub two_words : line_of (codes "5 hooks ") ≡ Bad
  pub bytes : line_of (codes "1 http 0aFf") ≡ Timed 1 (Http (10 ∷ 255 ∷ []))
  pub no_bytes : line_of (codes "1 http ") ≡ Timed 1 (Http [])
  pub odd : line_of (codes "1 http 0") ≡ Bad
  pub excepted : line_of (codes "1 except 3 a e \"x y\"") ≡ Timed 1 (Publish (codes "a") (codes "e") (codes "\"x y\"") (Some 3))

-- ---- two open sockets

abbrev pub open_socket : Socket
open_socket = record { is_open = true; quiet = quiet_from 0; asks = [] }

abbrev pub two_open : Progress
two_open = record { at = 1; sockets = open_socket ∷ open_socket ∷ []; shards = record { chans = λ k. []; users = λ k. [] }; webhooks = no_webhooks }

-- a subscribe to the channel `a`, and a body that is a JSON string
abbrev pub subscribes : Sense
subscribes = record {
  reading = record { verdict = Ok (Subscribe (codes "a") None None); member = None; user = None };
  is_string = true;
  look = Need;
  events = None;
}

-- what lines write that mean so, one after another; a line that may not stand ends them
abbrev pub written_then : (Progress → List ℕ) → Option Played → List ℕ
written_then more None = codes "refused"
written_then more (Some x) = x.text ++ more x.next

abbrev pub written : Progress → List Line → List ℕ
written p [] = []
written p (line ∷ lines) = written_then (λ q. written q lines) (played_as built_in p line subscribes)

-- both subscribe, and each gets one published event; a second subscribe is refused, and nothing goes back in time
abbrev pub OnePublish : Type 0
OnePublish =
    written two_open (Timed 1 (Say 1 []) ∷ Timed 1 (Say 2 []) ∷ Timed 2 (Publish (codes "a") (codes "e") (codes "\"hi\"") None)
    ∷ Timed 2 (Say 1 []) ∷ Timed 1 (Lose 1) ∷ [])
    ≡ codes "1 {\"event\":\"pusher_internal:subscription_succeeded\",\"channel\":\"a\",\"data\":\"{}\"}" ++ line_end
    ++ codes "2 {\"event\":\"pusher_internal:subscription_succeeded\",\"channel\":\"a\",\"data\":\"{}\"}" ++ line_end
    ++ codes "sent 2 0" ++ line_end
    ++ codes "1 {\"event\":\"e\",\"channel\":\"a\",\"data\":\"hi\"}" ++ line_end
    ++ codes "2 {\"event\":\"e\",\"channel\":\"a\",\"data\":\"hi\"}" ++ line_end
    ++ codes "1 {\"event\":\"pusher:error\",\"data\":{\"message\":\"already subscribed\",\"code\":4313}}" ++ line_end
    ++ codes "refused"

-- the excepted socket gets nothing
abbrev pub Excepted : Type 0
Excepted =
    written two_open (Timed 1 (Say 1 []) ∷ Timed 1 (Publish (codes "a") (codes "e") (codes "\"x\"") (Some 1)) ∷ [])
    ≡ codes "1 {\"event\":\"pusher_internal:subscription_succeeded\",\"channel\":\"a\",\"data\":\"{}\"}" ++ line_end
    ++ codes "sent 1 0" ++ line_end
