-- What the outcomes of a message tell its socket.
use Rattle.std.specs.Prelude.{◌≡◌, ℕ, Bool, true, false, List, [], ◌∷◌, Option, Some, None}
use Rattle.std.specs.List.{flat_map}
use Rattle.std.specs.Option.{option_or, option_to_list}
use Rattle.ch_base.specs.declared.frame.Frame.{Frame}
use Rattle.ch_base.specs.declared.frame.Frame.TheVariants.{Error}
use Rattle.ch_protocol.specs.declared.heard.Settled.{Settled}
use Rattle.ch_protocol.specs.declared.heard.Settled.TheVariants.{Nothing, Reply, Refuse, End}
use Rattle.ch_dispatch.specs.declared.response.Response.{Response}

-- whether no further ask of the message is made after this
abbrev pub stops : Settled → Bool
stops (Refuse code) = true
stops (End code) = true
stops _ = false

-- the frames that the socket is sent
abbrev pub frames_of : Settled → List Frame
frames_of (Reply frame) = frame ∷ []
frames_of (Refuse code) = Error code ∷ []
frames_of _ = []

abbrev pub frames_in : List Settled → List Frame
frames_in outcomes = flat_map frames_of outcomes

-- the code with which the connection ends, if it does
abbrev pub end_of : Settled → Option ℕ
end_of (End code) = Some code
end_of _ = None

abbrev pub end_in : List Settled → Option ℕ
end_in [] = None
end_in (outcome ∷ outcomes) = option_or (end_of outcome) (end_in outcomes)

-- the response tells all of these outcomes, and nothing else
pub record IsResponseTo (outcomes : List Settled) (response : Response) : Type 0 where
  pub frames : option_to_list response.reply ≡ frames_in outcomes
  pub ends : response.end ≡ end_in outcomes

-- the response with one more outcome
abbrev pub with_outcome : Response → Settled → Response
with_outcome response Nothing = response
with_outcome response (Reply frame) = record { reply = Some frame; end = response.end }
with_outcome response (Refuse code) = record { reply = Some (Error code); end = response.end }
with_outcome response (End code) = record { reply = response.reply; end = Some code }
