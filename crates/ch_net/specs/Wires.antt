-- What a wire tells of itself, and what calls do to that (RFC 6455, sections 5.6 and 7.1).
use Rattle.std.specs.Prelude.{◌≡◌, ◌≤◌, ℕ, List, [], ◌∷◌, length, Option, Some, None}
use Rattle.ch_io.specs.Counts.{Rose, raised, nothing_counted, NeverFall}
use Rattle.ch_io.specs.declared.counts.Counts.{Counts}
use Rattle.ch_io.specs.Known.{Takes, Adds, IsNothing}
use Rattle.ch_net.specs.declared.wire.Message.{Message}
use Rattle.ch_net.specs.declared.wire.Message.TheVariants as message
use Rattle.ch_net.specs.declared.wire.Put.{Put as PutAnswer}
use Rattle.ch_net.specs.declared.wire.Put.TheVariants as put_answer
use Rattle.ch_net.specs.declared.wire.Pump.{Pump}
use Rattle.ch_net.specs.declared.wire.Pump.TheVariants as pump
use Rattle.ch_net.specs.declared.wire.Recv.{Recv}
use Rattle.ch_net.specs.declared.wire.Recv.TheVariants as recv

-- the messages that are left and the texts that were sent, where they are known; how often it was closed, the code with which it was closed last; the counts
pub record WireTold : Type 0 where
  pub left : Option (List Message)
  pub sent : Option (List (List ℕ))
  pub closes : ℕ
  pub code : Option ℕ
  pub counts : Counts

-- nothing was sent over the wire, it wasn't closed, and nothing was counted
pub record IsNewWire (wire : WireTold) : Type 0 where
  pub sent : IsNothing wire.sent
  pub closes : wire.closes ≡ 0
  pub code : wire.code ≡ None
  pub counts : wire.counts ≡ nothing_counted

-- the last code, after these more
abbrev pub last_code : Option ℕ → List ℕ → Option ℕ
last_code code [] = code
last_code code (c ∷ codes) = last_code (Some c) codes

-- calls took these messages, sent these texts and closed with these codes, each in order; no count fell
pub record WireMoves (old new : WireTold) (messages : List Message) (texts : List (List ℕ)) (codes : List ℕ) : Type 0 where
  pub left : Takes old.left new.left messages
  pub sent : Adds old.sent new.sent texts
  pub closes : new.closes ≡ raised old.closes (length codes)
  pub code : new.code ≡ last_code old.code codes
  pub counts : NeverFall old.counts new.counts

-- ---- one call

-- the message that receiving took
abbrev pub received : Recv → List Message
received (recv.Said text) = message.Text text ∷ []
received recv.Binary = message.Binary ∷ []
received _ = []

-- receiving takes the message that it answers; where there was no memory, it may have taken one
abbrev pub Receives : Recv → WireTold → WireTold → Type 0
Receives recv.Memory old new = (lost : List Message) × (length lost ≤ 1) × WireMoves old new lost [] []
Receives answer old new = WireMoves old new (received answer) [] []

-- the text that sending took
abbrev pub put : PutAnswer → List ℕ → List (List ℕ)
put put_answer.Put text = text ∷ []
put _ text = []

-- ---- the count that rose, where an answer needs one

abbrev pub RecvHasCause : Recv → Counts → Counts → Type 0
RecvHasCause recv.Quiet old new = Rose old.stalls new.stalls
RecvHasCause recv.Gone old new = Rose old.ends new.ends
RecvHasCause recv.Failed old new = Rose old.faults new.faults
RecvHasCause _ old new = Unit {0}

abbrev pub PutHasCause : PutAnswer → Counts → Counts → Type 0
PutHasCause put_answer.Waiting old new = Rose old.stalls new.stalls
PutHasCause put_answer.Failed old new = Rose old.faults new.faults
PutHasCause _ old new = Unit {0}

abbrev pub PumpHasCause : Pump → Counts → Counts → Type 0
PumpHasCause pump.Waiting old new = Rose old.stalls new.stalls
PumpHasCause pump.Failed old new = Rose old.faults new.faults
PumpHasCause pump.Clear old new = Unit {0}
