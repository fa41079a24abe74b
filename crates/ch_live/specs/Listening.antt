-- A turn from its receiving on. (Of private functions.)
use Rattle.std.specs.Prelude.{◌≡◌, ◌≢◌, ◌⊎◌, ℕ, Bool, true, false, List, ◌++◌, length, Option, Some, None}
use Rattle.std.specs.Option.{option_to_list}
use Rattle.ch_config.specs.declared.config.Config.{Config}
use Rattle.ch_desk.specs.OwnEntries.{Makes}
use Rattle.ch_desk.specs.Views.{DeskView}
use Rattle.ch_dispatch.specs.MadeAsks.{settled_all}
use Rattle.ch_dispatch.specs.Outcomes.{frames_in, end_in}
use Rattle.ch_io.specs.Counts.{Rose}
use Rattle.ch_io.specs.declared.counts.Counts.{Counts}
use Rattle.ch_net.specs.Wires.{WireMoves}
use Rattle.ch_net.specs.declared.wire.Message.{Message}
use Rattle.ch_protocol.specs.Asks.{Asked}
use Rattle.ch_protocol.specs.Settling.{SettledAsk}
use Rattle.ch_protocol.specs.declared.heard.Settled.{Settled}
use Rattle.ch_rate.specs.Quiet.{quiet_from}
use Rattle.ch_session.specs.Judging.{known}
use Rattle.ch_session.specs.Kept.{IsSession}
use Rattle.ch_live.specs.Answers.{last_texts, closing_codes, LastHasCause, MayLoseMessages}
use Rattle.ch_live.specs.Backlogs.{all_delivered}
use Rattle.ch_live.specs.Connections.{Connected}
use Rattle.ch_live.specs.Courses.{AnswersTo}
use Rattle.ch_live.specs.Turns.{EndsWith, Scene, quiet_with}
use Rattle.ch_live.specs.declared.turn.Turn.{Turn}
use Rattle.ch_live.specs.declared.turn.Turn.TheVariants.{Moved, Idle, Memory, Ended}
use Rattle.ch_live.specs.declared.turn.End.TheVariants as end

-- the connection heard the message: these asks were made, and this is the code with which it ends, if it does
pub record HearsMessage (config : Config) (now : ℕ) (message : Message) (old new : Connected) (desk desk_new : DeskView) (code : Option ℕ) : Type 0 where
  pub asked : List Asked
  pub outcomes : List Settled
  pub answers : (start number : ℕ) (asks : List SettledAsk) → IsSession old.session start number asks
      → AnswersTo (known config start number asks now) (Some message) asked outcomes
  pub settles : (start number : ℕ) (asks : List SettledAsk) → IsSession old.session start number asks
      → IsSession new.session start number (settled_all now asks asked)
  pub calls : Makes asked desk desk_new
  pub waits : new.backlog ≡ all_delivered old.backlog (frames_in outcomes)
  pub ends : code ≡ end_in outcomes
  pub same : new.session ≡ record old.session { told = new.session.told; quiet = quiet_from now }
  pub used : length new.session.told.used ≡ length old.session.told.used

-- the turn of a connection that heard a message: it ends where there is a code
abbrev pub IsTurnBy : Option ℕ → Turn → Type 0
IsTurnBy (Some code) result = EndsWith code result
IsTurnBy None result = result ≡ Moved

-- the answer of receiving; moved: whether a frame was sent before
abbrev pub IsAnswerAfter : Bool → Option ℕ → Option Message → Counts → Counts → Turn → Type 0
IsAnswerAfter moved code received old new Moved =
    (code ≡ None) × ((moved ≡ true) ⊎ (received ≢ None)) × (received ≡ None → Rose old.stalls new.stalls)
IsAnswerAfter moved code received old new Idle = (code ≡ None) × (moved ≡ false) × (received ≡ None) × Rose old.stalls new.stalls
IsAnswerAfter moved code received old new Memory = ⊥
IsAnswerAfter moved code received old new (Ended end.Peer) = (code ≡ None) × (received ≡ None) × Rose old.ends new.ends
IsAnswerAfter moved code received old new (Ended end.Fault) = (code ≡ None) × (received ≡ None) × Rose old.faults new.faults
IsAnswerAfter moved code received old new (Ended end.Memory) = (code ≡ None) × (received ≡ None)
IsAnswerAfter moved code received old new (Ended (end.Code n farewell)) = code ≡ Some n

-- the wire was asked for a message, and one that came was heard
pub record Listens (config : Config) (now : ℕ) (moved : Bool) (old new : Scene) (result : Turn) : Type 0 where
  pub received : Option Message
  pub lost : List Message
  pub asked : List Asked
  pub outcomes : List Settled
  pub moves : WireMoves old.wire new.wire (option_to_list received ++ lost) (last_texts result) (closing_codes result)
  pub last : LastHasCause result old.wire.counts new.wire.counts
  pub is_lost : MayLoseMessages result lost
  pub answers : (start number : ℕ) (asks : List SettledAsk) → IsSession old.connection.session start number asks
      → AnswersTo (known config start number asks now) received asked outcomes
  pub settles : (start number : ℕ) (asks : List SettledAsk) → IsSession old.connection.session start number asks
      → IsSession new.connection.session start number (settled_all now asks asked)
  pub calls : Makes asked old.desk new.desk
  pub waits : new.connection.backlog ≡ all_delivered old.connection.backlog (frames_in outcomes)
  pub quiet : new.connection.session.quiet ≡ quiet_with now old.connection.session.quiet received
  pub same : new.connection.session ≡ record old.connection.session { told = new.connection.session.told; quiet = new.connection.session.quiet }
  pub used : length new.connection.session.told.used ≡ length old.connection.session.told.used
  pub answer : IsAnswerAfter moved (end_in outcomes) received old.wire.counts new.wire.counts result
