-- A turn from its receiving on.
use Rattle.std.proofs.Common.{◌≡◌, inl, inr, ℕ, ◌≤◌, Bool, true, false, cond, List, [], ◌∷◌, length, ap, sym, subst, refl, ◌∙◌, arith}
use Rattle.std.specs.Prelude.{Option, Some, None}
use Rattle.std.specs.Option.{option_to_list}
use Rattle.ch_base.specs.declared.error_codes.TheConstants.{MALFORMED_MESSAGE}
use Rattle.ch_base.specs.declared.frame.Frame.TheVariants.{Error}
use Rattle.ch_config.specs.declared.config.Config.{Config}
use Rattle.ch_desk.specs.Views.{DeskView}
use Rattle.ch_desk.proofs.OwnEntries.{Makes-none}
use Rattle.ch_dispatch.specs.Hearing.{Hears}
use Rattle.ch_dispatch.specs.Outcomes.{end_in}
use Rattle.ch_dispatch.specs.declared.response.Response.{Response}
use Rattle.ch_io.specs.Counts.{Rose}
use Rattle.ch_io.specs.declared.counts.Counts.{Counts}
use Rattle.ch_net.specs.Wires.{WireTold, WireMoves}
use Rattle.ch_net.specs.declared.wire.Message.{Message}
use Rattle.ch_net.specs.declared.wire.Message.TheVariants.{Text, Binary}
use Rattle.ch_net.proofs.Moving.{WireMoves-then}
use Rattle.ch_io.proofs.Counting.{Rose-after}
use Rattle.ch_protocol.specs.Asks.{Asked}
use Rattle.ch_protocol.specs.Settling.{SettledAsk}
use Rattle.ch_protocol.specs.declared.heard.Settled.TheVariants.{Refuse}
use Rattle.ch_rate.specs.Quiet.{quiet_from}
use Rattle.ch_session.specs.Kept.{Kept, IsSession}
use Rattle.ch_session.specs.declared.waiting.Waiting.TheVariants.{Nothing}
use Rattle.ch_live.specs.Answers.{last_texts, closing_codes, FarewellHasCause, LastHasCause, MayLoseMessages}
use Rattle.ch_live.specs.Backlogs.{Held, all_delivered}
use Rattle.ch_live.specs.Connections.{Connected}
use Rattle.ch_live.specs.Listening.{HearsMessage, IsAnswerAfter, IsTurnBy, Listens}
use Rattle.ch_live.specs.declared.turn.Farewell.{Farewell}
use Rattle.ch_live.specs.declared.turn.Farewell.TheVariants as farewell
use Rattle.ch_live.specs.declared.turn.Turn.{Turn}
use Rattle.ch_live.specs.declared.turn.Turn.TheVariants.{Moved, Idle, Memory, Ended}
use Rattle.ch_live.specs.declared.turn.End.TheVariants as end
use Rattle.ch_live.proofs.Wires.{moves_as}

-- ---- a message

still : (old : Kept) (new : Kept) → old.waits ≡ Nothing → new ≡ record old { told = new.told; waits = Nothing; quiet = new.quiet }
    → new ≡ record old { told = new.told; quiet = new.quiet }
still old new idle same = same ∙ ap (λ w. record old { told = new.told; waits = w; quiet = new.quiet }) (sym idle)

-- a text was heard, and its response waits
pub heard_text : (config : Config) (now : ℕ) (message : Message) (text : List ℕ) (old new : Kept) (held after : Held) (desk desk_new : DeskView) (response : Response) (code : Option ℕ)
    → message ≡ Text text → old.waits ≡ Nothing
    → (asked : List Asked) × Hears config now text asked (record { session = old; desk = desk }) (record { session = new; desk = desk_new }) response
    → after ≡ all_delivered held (option_to_list response.reply) → code ≡ response.end
    → HearsMessage config now message (record { session = old; backlog = held }) (record { session = new; backlog = after }) desk desk_new code
heard_text config now message text old new held after desk desk_new response code is idle (asked, h) tells ends =
    let quiet : new.quiet ≡ quiet_from now = ap (λ (s : Kept). s.quiet) h.same in
    subst (λ m. HearsMessage config now m (record { session = old; backlog = held }) (record { session = new; backlog = after }) desk desk_new code) (sym is)
    (record {
      asked = asked;
      outcomes = h.outcomes;
      answers = h.answers;
      settles = h.settles;
      calls = h.calls;
      waits = tells ∙ ap (λ frames. all_delivered held frames) h.tells.frames;
      ends = ends ∙ h.tells.ends;
      same = h.same ∙ ap (λ w. record old { told = new.told; waits = w; quiet = quiet_from now }) (sym idle);
      used = h.used;
    })

-- a binary message was heard
pub heard_binary : (config : Config) (now : ℕ) (message : Message) (old new : Kept) (held after : Held) (desk : DeskView) (response : Response) (code : Option ℕ)
    → message ≡ Binary → response ≡ record { reply = Some (Error MALFORMED_MESSAGE); end = None }
    → ((start number : ℕ) (asks : List SettledAsk) → IsSession old start number asks → IsSession new start number asks)
    → new ≡ record old { quiet = quiet_from now }
    → after ≡ all_delivered held (option_to_list response.reply) → code ≡ response.end
    → HearsMessage config now message (record { session = old; backlog = held }) (record { session = new; backlog = after }) desk desk code
heard_binary config now message old new held after desk response code is refused stands same tells ends =
    let told : new.told ≡ old.told = ap (λ (s : Kept). s.told) same in
    subst (λ m. HearsMessage config now m (record { session = old; backlog = held }) (record { session = new; backlog = after }) desk desk code) (sym is)
    (record {
      asked = [];
      outcomes = Refuse MALFORMED_MESSAGE ∷ [];
      answers = λ start number asks stood. (refl, refl);
      settles = stands;
      calls = Makes-none desk;
      waits = tells ∙ ap (λ (r : Response). all_delivered held (option_to_list r.reply)) refused;
      ends = ends ∙ ap (λ (r : Response). r.end) refused;
      same = same ∙ ap (λ t. record old { told = t; quiet = quiet_from now }) (sym told);
      used = ap (λ (s : Kept). length s.told.used) same;
    })

-- ---- receiving

pub no_loss : (r : Turn) → MayLoseMessages r []
no_loss Moved = refl
no_loss Idle = refl
no_loss Memory = refl
no_loss (Ended end.Peer) = refl
no_loss (Ended end.Fault) = refl
no_loss (Ended end.Memory) = omega arith
no_loss (Ended (end.Code code farewell)) = refl

-- a turn that doesn't end with a code tells and closes nothing
pub record IsUnsaid (r : Turn) (old new : Counts) : Type 0 where
  pub texts : [] ≡ last_texts r
  pub codes : [] ≡ closing_codes r
  pub last : LastHasCause r old new

pub unsaid_after : (moved : Bool) (received : Option Message) (old new older : Counts) (r : Turn) → IsAnswerAfter moved None received old new r → IsUnsaid r older new
unsaid_after moved received old new older Moved a = record { texts = refl; codes = refl; last = tt }
unsaid_after moved received old new older Idle a = record { texts = refl; codes = refl; last = tt }
unsaid_after moved received old new older Memory a = absurd a
unsaid_after moved received old new older (Ended end.Peer) a = record { texts = refl; codes = refl; last = tt }
unsaid_after moved received old new older (Ended end.Fault) a = record { texts = refl; codes = refl; last = tt }
unsaid_after moved received old new older (Ended end.Memory) a = record { texts = refl; codes = refl; last = tt }
unsaid_after moved received old new older (Ended (end.Code code farewell)) a = cc

-- none came
pub hears_none : (config : Config) (now : ℕ) (moved : Bool) (old : Connected) (wire wire_new : WireTold) (desk : DeskView) (lost : List Message) (result : Turn)
    → WireMoves wire wire_new lost [] [] → MayLoseMessages result lost → IsAnswerAfter moved None None wire.counts wire_new.counts result
    → Listens config now moved (record { connection = old; wire = wire; desk = desk }) (record { connection = old; wire = wire_new; desk = desk }) result
hears_none config now moved old wire wire_new desk lost result moves is_lost answer =
    let unsaid = unsaid_after moved None wire.counts wire_new.counts wire.counts result answer in
    record {
      received = None;
      lost = lost;
      asked = [];
      outcomes = [];
      moves = moves_as wire wire_new _ _ _ _ _ _ refl unsaid.texts unsaid.codes moves;
      last = unsaid.last;
      is_lost = is_lost;
      answers = λ start number asks is. (refl, refl);
      settles = λ start number asks is. is;
      calls = Makes-none desk;
      waits = refl;
      quiet = refl;
      same = refl;
      used = refl;
      answer = answer;
    }

pub quiet_answer : (moved : Bool) (old new : Counts) → Rose old.stalls new.stalls → IsAnswerAfter moved None None old new (cond moved Moved Idle)
quiet_answer true old new rose = (refl, inl refl, λ e. rose)
quiet_answer false old new rose = (refl, refl, refl, rose)

pub quiet_by : (moved : Bool) (old new : Counts) (r : Turn) → r ≡ cond moved Moved Idle → Rose old.stalls new.stalls → IsAnswerAfter moved None None old new r
quiet_by moved old new r is rose = subst (λ x. IsAnswerAfter moved None None old new x) (sym is) (quiet_answer moved old new rose)

answer_by : (moved : Bool) (message : Message) (old new : Counts) (code ends : Option ℕ) (r : Turn) → code ≡ ends → IsTurnBy code r
    → IsAnswerAfter moved ends (Some message) old new r
answer_by moved message old new None ends r is by =
    subst (λ x. IsAnswerAfter moved ends (Some message) old new x) (sym by) (sym is, inr (λ e. cc), λ e. cc)
answer_by moved message old new (Some n) ends Moved is by = absurd by
answer_by moved message old new (Some n) ends Idle is by = absurd by
answer_by moved message old new (Some n) ends Memory is by = absurd by
answer_by moved message old new (Some n) ends (Ended end.Peer) is by = absurd by
answer_by moved message old new (Some n) ends (Ended end.Fault) is by = absurd by
answer_by moved message old new (Some n) ends (Ended end.Memory) is by = absurd by
answer_by moved message old new (Some n) ends (Ended (end.Code m farewell)) is by = sym is ∙ ap Some (sym by)

rose_said : (f : Farewell) (old mid new : Counts) → old.stalls ≤ mid.stalls → old.faults ≤ mid.faults → FarewellHasCause f mid new → FarewellHasCause f old new
rose_said farewell.Sent old mid new stalls faults cause = tt
rose_said farewell.NotSent old mid new stalls faults cause = elim cause [
  | inl rose ↦ inl (Rose-after old.stalls mid.stalls new.stalls stalls rose)
  | inr rose ↦ inr (Rose-after old.faults mid.faults new.faults faults rose)
]
rose_said farewell.Memory old mid new stalls faults cause = tt

-- what rose at the end rose in the turn
pub last_later : (r : Turn) (old mid new : Counts) → old.stalls ≤ mid.stalls → old.faults ≤ mid.faults → LastHasCause r mid new → LastHasCause r old new
last_later Moved old mid new stalls faults cause = tt
last_later Idle old mid new stalls faults cause = tt
last_later Memory old mid new stalls faults cause = tt
last_later (Ended end.Peer) old mid new stalls faults cause = tt
last_later (Ended end.Fault) old mid new stalls faults cause = tt
last_later (Ended end.Memory) old mid new stalls faults cause = tt
last_later (Ended (end.Code code f)) old mid new stalls faults cause = rose_said f old mid new stalls faults cause

-- one came and was heard
pub hears_one : (config : Config) (now : ℕ) (moved : Bool) (old new : Connected) (wire mid wire_new : WireTold) (desk desk_new : DeskView) (message : Message)
    (code : Option ℕ) (result : Turn) → WireMoves wire mid (message ∷ []) [] []
    → HearsMessage config now message old new desk desk_new code → IsTurnBy code result
    → WireMoves mid wire_new [] (last_texts result) (closing_codes result) → LastHasCause result mid.counts wire_new.counts
    → Listens config now moved (record { connection = old; wire = wire; desk = desk }) (record { connection = new; wire = wire_new; desk = desk_new }) result
hears_one config now moved old new wire mid wire_new desk desk_new message code result takes h by moves last =
    let quiet : new.session.quiet ≡ quiet_from now = ap (λ (s : Kept). s.quiet) h.same in
    record {
      received = Some message;
      lost = [];
      asked = h.asked;
      outcomes = h.outcomes;
      moves = WireMoves-then wire mid wire_new (message ∷ []) [] [] (last_texts result) [] (closing_codes result) takes moves;
      last = last_later result wire.counts mid.counts wire_new.counts takes.counts.stalls takes.counts.faults last;
      is_lost = no_loss result;
      answers = h.answers;
      settles = h.settles;
      calls = h.calls;
      waits = h.waits;
      quiet = quiet;
      same = h.same ∙ ap (λ q. record old.session { told = new.session.told; quiet = q }) (sym quiet);
      used = h.used;
      answer = answer_by moved message wire.counts wire_new.counts code (end_in h.outcomes) result h.ends by;
    }
