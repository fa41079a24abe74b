-- What follows from the definitions of a turn.
use Rattle.std.proofs.Common.{◌≡◌, ◌≢◌, ◌⊎◌, ℕ, List, [], ◌++◌, ap, sym, subst, refl, ◌∙◌, append-nil, inl, inr, arith}
use Rattle.std.specs.Prelude.{Option, Some, None}
use Rattle.std.specs.Option.{option_or}
use Rattle.ch_base.specs.declared.error_codes.TheConstants.{MALFORMED_MESSAGE}
use Rattle.ch_base.specs.declared.frame.Frame.{Frame}
use Rattle.ch_base.specs.declared.frame.Frame.TheVariants.{Error}
use Rattle.ch_dispatch.specs.Laws.{IsOneAtMost}
use Rattle.ch_dispatch.specs.Outcomes.{frames_in, end_in}
use Rattle.ch_dispatch.proofs.OneFrame.{answered_once}
use Rattle.ch_io.specs.Counts.{Rose}
use Rattle.ch_io.specs.declared.counts.Counts.{Counts}
use Rattle.ch_net.specs.declared.wire.Message.{Message}
use Rattle.ch_net.specs.declared.wire.Message.TheVariants.{Text, Binary}
use Rattle.ch_protocol.specs.Asks.{Asked}
use Rattle.ch_protocol.specs.Sessions.{Session}
use Rattle.ch_protocol.specs.declared.heard.Settled.{Settled}
use Rattle.ch_session.specs.Judging.{known}
use Rattle.ch_live.specs.Backlogs.{Held, all_delivered, still_waiting}
use Rattle.ch_live.specs.Connections.{looked_at, ends_at_once}
use Rattle.ch_live.specs.Courses.{Course, AnswersTo, IsAnswer}
use Rattle.ch_live.specs.Laws.{DirectFramesWait, FramesAreSent, MessagesAreHeard, TurnsMove, IdleTurns, MarksEnd, IsEnd}
use Rattle.ch_live.specs.Turns.{EndsWith}
use Rattle.ch_live.specs.declared.turn.Turn.{Turn}
use Rattle.ch_live.specs.declared.turn.Turn.TheVariants.{Moved, Idle, Memory, Ended}
use Rattle.ch_live.specs.declared.turn.End.TheVariants as end
use Rattle.ch_live.proofs.Delivering.{room}

-- ---- direct frames

few_wait : (h : Held) (frames : List Frame) → IsOneAtMost frames → all_delivered (still_waiting h []) frames ≡ still_waiting h frames
few_wait h frames few = elim few [
  | inl none ↦ ap (λ z. all_delivered (still_waiting h []) z) none ∙ ap (λ z. still_waiting h z) (sym none)
  | inr one ↦ ap (λ z. all_delivered (still_waiting h []) z) one.1 ∙ room (still_waiting h []) one.0 one.2 (omega arith) ∙ ap (λ z. still_waiting h z) (sym one.1)
]

-- what was received is answered by one frame at most
answered : (s : Session) (message : Message) (asked : List Asked) (outcomes : List Settled) → AnswersTo s (Some message) asked outcomes → IsOneAtMost (frames_in outcomes)
answered s (Text text) asked outcomes a = answered_once s text asked outcomes a
answered s Binary asked outcomes a = subst (λ os. IsOneAtMost (frames_in os)) (sym a.1) (inr (Error MALFORMED_MESSAGE, refl, λ e. cc))

wait_after : (s : Session) (received : Option Message) (asked : List Asked) (outcomes : List Settled) (h : Held) (kept : List Frame)
    → AnswersTo s received asked outcomes → (kept ≡ []) ⊎ (received ≡ None)
    → all_delivered (still_waiting h kept) (frames_in outcomes) ≡ still_waiting h (kept ++ frames_in outcomes)
wait_after s None asked outcomes h kept a one_way =
    ap (λ os. all_delivered (still_waiting h kept) (frames_in os)) a.1 ∙ ap (λ z. still_waiting h z) (sym (append-nil kept)) ∙ ap (λ os. still_waiting h (kept ++ frames_in os)) (sym a.1)
wait_after s (Some message) asked outcomes h kept a one_way = elim one_way [
  | inl none ↦ ap (λ z. all_delivered (still_waiting h z) (frames_in outcomes)) none ∙ few_wait h (frames_in outcomes) (answered s message asked outcomes a)
      ∙ ap (λ z. still_waiting h (z ++ frames_in outcomes)) (sym none)
  | inr none ↦ cc
]

pub direct_frames_wait : DirectFramesWait
direct_frames_wait config now c old new result t start number asks is =
    t.waits ∙ wait_after (known config start number asks now) c.received c.asked c.outcomes (looked_at now old.connection).backlog c.kept (t.answers start number asks is) t.one_way

-- ---- the answers

sent_by : (code : Option ℕ) (c : Course) (old new : Counts) (r : Turn) → IsAnswer code c old new r → (c.kept ≡ []) ⊎ (c.received ≡ None) → c.kept ≢ []
    → Rose old.stalls new.stalls ⊎ ((r ≡ Memory) ⊎ IsEnd r)
sent_by code c old new Moved a one_way some = elim one_way [ inl none ↦ absurd (some none) | inr none ↦ inl (a.2 none) ]
sent_by code c old new Idle a one_way some = inl a.3
sent_by code c old new Memory a one_way some = inr (inl refl)
sent_by code c old new (Ended e) a one_way some = inr (inr (e, refl))

heard_by : (code : Option ℕ) (c : Course) (old new : Counts) (r : Turn) → IsAnswer code c old new r → c.received ≡ None
    → Rose old.stalls new.stalls ⊎ ((r ≡ Memory) ⊎ IsEnd r)
heard_by code c old new Moved a none = inl (a.2 none)
heard_by code c old new Idle a none = inl a.3
heard_by code c old new Memory a none = inr (inl refl)
heard_by code c old new (Ended e) a none = inr (inr (e, refl))

ends_by : (code : Option ℕ) (c : Course) (old new : Counts) (r : Turn) (n : ℕ) → code ≡ Some n → IsAnswer code c old new r → EndsWith n r
ends_by code c old new Moved n is a = let none : code ≡ None = a.0 in cc
ends_by code c old new Idle n is a = let none : code ≡ None = a.0 in cc
ends_by code c old new Memory n is a = let none : code ≡ None = a.0 in cc
ends_by code c old new (Ended end.Peer) n is a = let none : code ≡ None = a.0 in cc
ends_by code c old new (Ended end.Fault) n is a = let none : code ≡ None = a.0 in cc
ends_by code c old new (Ended end.Memory) n is a = let none : code ≡ None = a.0 in cc
ends_by code c old new (Ended (end.Code m farewell)) n is a = cc

moves_by : (code : Option ℕ) (c : Course) (old new : Counts) (r : Turn) → IsAnswer code c old new r → (Rose old.stalls new.stalls → ⊥) → r ≢ Memory → (IsEnd r → ⊥)
    → (r ≡ Moved) × (c.received ≢ None)
moves_by code c old new Moved a never some done = (refl, λ e. never (a.2 e))
moves_by code c old new Idle a never some done = absurd (never a.3)
moves_by code c old new Memory a never some done = absurd (some refl)
moves_by code c old new (Ended e) a never some done = absurd (done (e, refl))

idle_so : (code : Option ℕ) (c : Course) (old new : Counts) (r : Turn) → IsAnswer code c old new r → r ≡ Idle
    → (c.sent ≡ []) × (c.received ≡ None) × (r ≢ Memory) × (IsEnd r → ⊥)
idle_so code c old new Moved a is = cc
idle_so code c old new Idle a is = (a.1, a.2, λ e. cc, λ e. let is : Idle ≡ Ended e.0 = e.1 in cc)
idle_so code c old new Memory a is = cc
idle_so code c old new (Ended e) a is = cc

idle_if : (code : Option ℕ) (c : Course) (old new : Counts) (r : Turn) → IsAnswer code c old new r
    → (c.sent ≡ []) × (c.received ≡ None) × (r ≢ Memory) × (IsEnd r → ⊥) → r ≡ Idle
idle_if code c old new Moved a n = elim a.1 [ inl some ↦ absurd (some n.0) | inr some ↦ absurd (some n.1) ]
idle_if code c old new Idle a n = refl
idle_if code c old new Memory a n = absurd (n.2 refl)
idle_if code c old new (Ended e) a n = absurd (n.3 (e, refl))

pub frames_are_sent : FramesAreSent
frames_are_sent config now c old new r t some =
    sent_by (option_or (ends_at_once now old.connection) (end_in c.outcomes)) c old.wire.counts new.wire.counts r t.answer t.one_way some

pub messages_are_heard : MessagesAreHeard
messages_are_heard config now c old new r t none =
    heard_by (option_or (ends_at_once now old.connection) (end_in c.outcomes)) c old.wire.counts new.wire.counts r t.answer none

pub turns_move : TurnsMove
turns_move config now c old new r t never some done =
    moves_by (option_or (ends_at_once now old.connection) (end_in c.outcomes)) c old.wire.counts new.wire.counts r t.answer never some done

pub idle_turns : IdleTurns
idle_turns config now c old new r t =
    let code = option_or (ends_at_once now old.connection) (end_in c.outcomes) in
    (idle_so code c old.wire.counts new.wire.counts r t.answer, idle_if code c old.wire.counts new.wire.counts r t.answer)

pub marks_end : MarksEnd
marks_end config now c old new r t code is =
    ends_by (option_or (ends_at_once now old.connection) (end_in c.outcomes)) c old.wire.counts new.wire.counts r code (ap (λ o. option_or o (end_in c.outcomes)) is) t.answer
