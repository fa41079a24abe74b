-- What happens in a turn.
use Rattle.std.specs.Prelude.{◌≡◌, ◌≢◌, ◌⊎◌, ℕ, List, [], ◌∷◌, Option, Some, None}
use Rattle.ch_base.specs.declared.frame.Frame.{Frame}
use Rattle.ch_base.specs.declared.error_codes.TheConstants.{MALFORMED_MESSAGE}
use Rattle.ch_dispatch.specs.Messages.{Answers}
use Rattle.ch_io.specs.Counts.{Rose}
use Rattle.ch_io.specs.declared.counts.Counts.{Counts}
use Rattle.ch_net.specs.declared.wire.Message.{Message}
use Rattle.ch_net.specs.declared.wire.Message.TheVariants.{Text, Binary}
use Rattle.ch_protocol.specs.Asks.{Asked}
use Rattle.ch_protocol.specs.Sessions.{Session}
use Rattle.ch_protocol.specs.declared.heard.Settled.{Settled}
use Rattle.ch_protocol.specs.declared.heard.Settled.TheVariants.{Refuse}
use Rattle.ch_live.specs.declared.turn.Turn.{Turn}
use Rattle.ch_live.specs.declared.turn.Turn.TheVariants.{Moved, Idle, Memory, Ended}
use Rattle.ch_live.specs.declared.turn.End.TheVariants as end

-- The waiting frames that the wire takes, and those that still wait; the message that is received, if one is, and one that
-- is lost for want of memory; the asks that are made, each with what came of it, and what the message comes to.
pub record Course : Type 0 where
  pub sent : List Frame
  pub kept : List Frame
  pub received : Option Message
  pub lost : List Message
  pub asked : List Asked
  pub outcomes : List Settled

-- what the message that was received comes to, if there is one; a binary one is refused
abbrev pub AnswersTo : Session → Option Message → List Asked → List Settled → Type 0
AnswersTo s None asked outcomes = (asked ≡ []) × (outcomes ≡ [])
AnswersTo s (Some Binary) asked outcomes = (asked ≡ []) × (outcomes ≡ Refuse MALFORMED_MESSAGE ∷ [])
AnswersTo s (Some (Text text)) asked outcomes = Answers s text asked outcomes

-- The answer of a turn, by the code with which it ends by itself, if it does: that of a mark, of silence, or of its message.
abbrev pub IsAnswer : Option ℕ → Course → Counts → Counts → Turn → Type 0
IsAnswer code c old new Moved =
    (code ≡ None) × ((c.sent ≢ []) ⊎ (c.received ≢ None)) × (c.received ≡ None → Rose old.stalls new.stalls)
IsAnswer code c old new Idle = (code ≡ None) × (c.sent ≡ []) × (c.received ≡ None) × Rose old.stalls new.stalls
IsAnswer code c old new Memory = (code ≡ None) × (c.received ≡ None) × (c.kept ≢ [])
IsAnswer code c old new (Ended end.Peer) = (code ≡ None) × (c.received ≡ None) × (c.kept ≡ []) × Rose old.ends new.ends
IsAnswer code c old new (Ended end.Fault) = (code ≡ None) × (c.received ≡ None) × Rose old.faults new.faults
IsAnswer code c old new (Ended end.Memory) = (code ≡ None) × (c.received ≡ None) × (c.kept ≡ [])
IsAnswer code c old new (Ended (end.Code n farewell)) = code ≡ Some n
