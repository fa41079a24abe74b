-- One turn of a live socket.
use Rattle.std.specs.Prelude.{◌≡◌, ◌⊎◌, ℕ, List, [], ◌++◌, length, map, Option, Some, None, IfSome}
use Rattle.std.specs.Option.{option_or, option_to_list}
use Rattle.ch_config.specs.declared.config.Config.{Config}
use Rattle.ch_desk.specs.OwnEntries.{Makes}
use Rattle.ch_desk.specs.Views.{DeskView}
use Rattle.ch_dispatch.specs.MadeAsks.{settled_all}
use Rattle.ch_dispatch.specs.Outcomes.{frames_in, end_in}
use Rattle.ch_net.specs.Wires.{WireTold, WireMoves}
use Rattle.ch_net.specs.declared.wire.Message.{Message}
use Rattle.ch_protocol.specs.Asks.{Asked}
use Rattle.ch_base.specs.Printed.{printed}
use Rattle.ch_protocol.specs.Settling.{SettledAsk}
use Rattle.ch_rate.specs.Quiet.{Quiet, quiet_from}
use Rattle.ch_session.specs.Judging.{known}
use Rattle.ch_session.specs.Kept.{IsSession}
use Rattle.ch_live.specs.Answers.{last_texts, closing_codes, LastHasCause, MayLoseMessages}
use Rattle.ch_live.specs.Backlogs.{all_delivered, still_waiting}
use Rattle.ch_live.specs.Connections.{Connected, ends_at_once, looked_at}
use Rattle.ch_live.specs.Courses.{Course, AnswersTo, IsAnswer}
use Rattle.ch_live.specs.declared.peer.Peer.{Peer}
use Rattle.ch_live.specs.declared.peer.Peer.TheVariants.{Open, Refused}
use Rattle.ch_live.specs.declared.turn.Turn.{Turn}
use Rattle.ch_live.specs.declared.turn.Turn.TheVariants.{Ended}
use Rattle.ch_live.specs.declared.turn.End.TheVariants.{Code}

-- the messages that left the wire
abbrev pub messages_in : Course → List Message
messages_in c = option_to_list c.received ++ c.lost

-- the texts that the wire took of a socket whose server started at this second: the frames' and then the error's
abbrev pub texts_in : ℕ → Course → Turn → List (List ℕ)
texts_in start c result = map (λ f. printed f start) c.sent ++ last_texts result

-- when the session was last heard
abbrev pub quiet_with : ℕ → Quiet → Option Message → Quiet
quiet_with now quiet None = quiet
quiet_with now quiet (Some message) = quiet_from now

-- how an open connection, its wire and its desk are before a turn, or after it
pub record Scene : Type 0 where
  pub connection : Connected
  pub wire : WireTold
  pub desk : DeskView

-- The turn of an open connection at the moment now takes this course, and has this answer.
pub record TakesCourse (config : Config) (now : ℕ) (c : Course) (old new : Scene) (result : Turn) : Type 0 where
  -- what waited, with a ping that was due, is what was sent and then what still waits
  pub frames : (looked_at now old.connection).backlog.frames ≡ c.sent ++ c.kept
  -- the wire lost the message, took the texts, and was closed at an end with a code alone
  pub moves : WireMoves old.wire new.wire (messages_in c) (texts_in old.connection.session.start c result) (closing_codes result)
  pub last : LastHasCause result old.wire.counts new.wire.counts
  pub lost : MayLoseMessages result c.lost
  -- no message is received while a frame waits
  pub one_way : (c.kept ≡ []) ⊎ (c.received ≡ None)
  -- what ends at once sends and receives nothing
  pub at_once : IfSome (ends_at_once now old.connection) (λ code. (c.sent ≡ []) × (c.received ≡ None))
  -- what the message comes to, and the session that keeps each answer
  pub answers : (start number : ℕ) (asks : List SettledAsk) → IsSession old.connection.session start number asks
      → AnswersTo (known config start number asks now) c.received c.asked c.outcomes
  pub settles : (start number : ℕ) (asks : List SettledAsk) → IsSession old.connection.session start number asks
      → IsSession new.connection.session start number (settled_all now asks c.asked)
  -- the caller's own entries are those of the asks
  pub calls : Makes c.asked old.desk new.desk
  -- what waits then: the frames that still wait, and the one by which the socket is told what its message comes to
  pub waits : new.connection.backlog ≡ all_delivered (still_waiting (looked_at now old.connection).backlog c.kept) (frames_in c.outcomes)
  pub quiet : new.connection.session.quiet ≡ quiet_with now (looked_at now old.connection).session.quiet c.received
  pub same : new.connection.session ≡ record old.connection.session { told = new.connection.session.told; quiet = new.connection.session.quiet }
  pub used : length new.connection.session.told.used ≡ length old.connection.session.told.used
  pub answer : IsAnswer (option_or (ends_at_once now old.connection) (end_in c.outcomes)) c old.wire.counts new.wire.counts result

-- ---- the turn of any live socket

-- the turn ends with this code
abbrev pub EndsWith : ℕ → Turn → Type 0
EndsWith code (Ended (Code n farewell)) = n ≡ code
EndsWith code _ = ⊥

-- where no session was opened, the turn ends with the code of the refusal
pub record IsTurnedAway (code : ℕ) (asked : List Asked) (old new : WireTold) (desk desk_new : DeskView) (result : Turn) : Type 0 where
  pub answer : EndsWith code result
  pub moves : WireMoves old new [] (last_texts result) (closing_codes result)
  pub last : LastHasCause result old.counts new.counts
  pub none : asked ≡ []
  pub calls : Makes asked desk desk_new

abbrev pub IsTurn : Config → ℕ → Course → Peer → Peer → WireTold → WireTold → DeskView → DeskView → Turn → Type 0
IsTurn config now c (Refused code) (Refused same) wire wire_new desk desk_new result =
    (same ≡ code) × IsTurnedAway code c.asked wire wire_new desk desk_new result
IsTurn config now c (Open x) (Open y) wire wire_new desk desk_new result =
    TakesCourse config now c (record { connection = x; wire = wire; desk = desk }) (record { connection = y; wire = wire_new; desk = desk_new }) result
IsTurn config now c _ _ wire wire_new desk desk_new result = ⊥
