-- A socket that hears a text, or is silent.
use Rattle.std.proofs.Common.{◌≡◌, ◌∙◌, ℕ, Bool, List, ◌++◌, ap, sym, subst, refl, append-nil, inl, inr}
use Rattle.std.specs.Prelude.{Option, Some, None, Result, Ok, Err, IfOk, is_some, not}
use Rattle.std.proofs.lemmas.Result.{IfOk-weaker}
use Rattle.ch_base.specs.declared.memory.Memory.{Memory}
use Rattle.std.specs.Option.{option_to_list}
use Rattle.ch_base.specs.declared.frame.Frame.{Frame}
use Rattle.ch_config.specs.declared.config.Config.{Config}
use Rattle.ch_desk.specs.AloneCalls.{CallsAlone, IsAlone, IsAt}
use Rattle.ch_desk.specs.Views.{DeskView, IsDeskOf}
use Rattle.ch_desk.specs.OwnEntries.{Makes}
use Rattle.ch_dispatch.specs.Hearing.{Hears}
use Rattle.ch_dispatch.specs.MadeAsks.{settled_all}
use Rattle.ch_dispatch.specs.Messages.{comes_to}
use Rattle.ch_dispatch.specs.Outcomes.{end_in, frames_in}
use Rattle.ch_dispatch.specs.declared.response.Response.{Response}
use Rattle.ch_protocol.specs.Asks.{Asked, asks_of}
use Rattle.ch_protocol.specs.ClientMessages.{Verdict}
use Rattle.ch_protocol.specs.Readings.{Reading, Reads}
use Rattle.ch_protocol.specs.Sessions.{judged}
use Rattle.ch_protocol.specs.Shards.{Shards, after_asks}
use Rattle.ch_protocol.specs.declared.client_message.ClientMessage.TheVariants.{Ping, Pong, Subscribe, Unsubscribe, SignIn, Say}
use Rattle.ch_rate.specs.Quiet.{Quiet, due_of, quiet_after}
use Rattle.ch_rate.specs.declared.activity.Due.{Due}
use Rattle.ch_session.specs.Judging.{user_data_of}
use Rattle.ch_protocol.specs.Settling.{SettledAsk}
use Rattle.ch_session.specs.Kept.{Kept, HasShardsOf, IsSession}
use Rattle.ch_socket.specs.Responses.{TellsOf, reply_lines, ending_lines}
use Rattle.ch_socket.specs.Sockets.{IsOpen, IsReady, TakesTurn}
use Rattle.ch_socket.specs.Turns.{HearsAs, TakesPart}
use Rattle.ch_socket.proofs.AskTurns.{does_as, ends_as, frame_lines, message_answered, outcome_turn, was_heard, with_asks}
use Rattle.ch_transcript.specs.Printing.{frame_line}
use Rattle.ch_transcript.specs.declared.start.TheConstants.{START_SECOND}
use Rattle.ch_transcript.specs.Progress.{Socket}
use Rattle.ch_transcript.specs.Turns.{data_of, does, heard_socket, hears, session_of, ticks, ticks_as}

pub ready_quiet : (config : Config) (number : ℕ) (before after : Kept) (quiet : Quiet) → after ≡ record before { quiet = quiet }
    → IsReady config number before → IsReady config number after
ready_quiet config number before after quiet same ready =
    subst (λ k. IsReady config number k) (sym same) (record {
      over = record { chans = ready.over.chans; shards = ready.over.shards };
      numbered = ready.numbered;
      idle = ready.idle;
      owes = ready.owes;
    })

data_same : (v : Verdict) → user_data_of v ≡ data_of v
data_same (Ok Ping) = refl
data_same (Ok Pong) = refl
data_same (Ok (Subscribe channel auth channel_data)) = refl
data_same (Ok (Unsubscribe channel)) = refl
data_same (Ok (SignIn auth user_data)) = refl
data_same (Ok (Say channel event body)) = refl
data_same (Err code) = refl

reply_is : (number : ℕ) (reply : Option Frame) → frame_lines number (option_to_list reply) ≡ reply_lines number reply
reply_is number None = refl
reply_is number (Some frame) = append-nil (frame_line number frame)

-- the turn was taken up to its end, or its losses are left
part_of : (number at : ℕ) (goes_on : Bool) (end : Option ℕ) (session : Kept) (desk : DeskView) (old new text : List ℕ) (s : Socket) (shards : Shards) → goes_on ≡ not (is_some end)
    → new ≡ old ++ text → IsOpen number session s → IsAt desk shards → TakesPart goes_on number at session desk old new (ends_as number at end text s shards)
part_of number at goes_on None session desk old new text s shards on written socket lists =
    subst (λ g. TakesPart g number at session desk old new (ends_as number at None text s shards)) (sym on)
    (record { text = written; socket = socket; shards = lists })
part_of number at goes_on (Some code) session desk old new text s shards on written socket lists =
    subst (λ g. TakesPart g number at session desk old new (ends_as number at (Some code) text s shards)) (sym on)
    (record { text = written; s = s; shards = shards; socket = socket; at_shards = lists; ended = refl; lost = refl })

-- it is a desk of the configuration afterwards too
pub stays_of : (config : Config) (asked : List Asked) (old new : DeskView) → Makes asked old new → IsDeskOf config old → IsDeskOf config new
stays_of config asked old new makes has = record {
  chan_shards = makes.same.chan_shards ∙ has.chan_shards;
  user_shards = makes.same.user_shards ∙ has.user_shards;
}

-- the session may go on after it was heard
pub ready_heard : (config : Config) (number at : ℕ) (text : List ℕ) (asked : List Asked) (before after : Kept) (old new : DeskView) (response : Response)
    → Hears config at text asked (record { session = before; desk = old }) (record { session = after; desk = new }) response → HasShardsOf after config
    → IsReady config number before → IsReady config number after
ready_heard config number at text asked before after old new response h over ready = record {
  over = over;
  numbered = ap (λ (k : Kept). k.number) h.same ∙ ready.numbered;
  idle = h.idle;
  owes = ap (λ (k : Kept). k.lost) h.same ∙ ready.owes;
}

-- the text is read in some way, and the turn is that of hearing it, up to its losses
abbrev pub HearsPart : Config → ℕ → ℕ → List ℕ → Socket → Shards → Bool → Kept → DeskView → List ℕ → List ℕ → Type 0
HearsPart config number at text s shards goes_on session desk old new =
    (r : Reading) × Reads text r × TakesPart goes_on number at session desk old new (hears config number at r s shards)

pub hears_part : CallsAlone → (config : Config) (number at : ℕ) (text : List ℕ) (s : Socket) (shards : Shards) (asked : List Asked) (old_session session : Kept) (old desk : DeskView)
    (response : Response) (goes_on : Bool) (before after : List ℕ)
    → Hears config at text asked (record { session = old_session; desk = old }) (record { session = session; desk = desk }) response
    → TellsOf number response before after goes_on → IsOpen number old_session s → IsAt old shards → IsAlone desk
    → HearsPart config number at text s shards goes_on session desk before after
hears_part law config number at text s shards asked old_session session old desk response goes_on before after h told socket lists alone =
    let a = h.answers START_SECOND number s.asks socket.session in
    let outcomes = comes_to a.user_data a.hears asked in
    let frames : option_to_list response.reply ≡ frames_in outcomes = h.tells.frames ∙ ap frames_in a.comes in
    let ends : response.end ≡ end_in outcomes = h.tells.ends ∙ ap end_in a.comes in
    elim a.is_heard [
      | inl e ↦ absurd (was_heard a.user_data a.hears asked response.reply frames told.memory.heard e)
      | inr j ↦
          let answered = message_answered a.user_data a.hears asked response.reply response.end a.made frames ends told.memory.heard told.memory.served in
          let come = law asked old desk shards h.calls answered alone lists in
          let then_s = with_asks (heard_socket at s) (settled_all at s.asks asked) in
          let then_shards = after_asks shards (asks_of asked) in
          let then_open : IsOpen number session then_s = record {
            lives = socket.lives;
            session = h.settles START_SECOND number s.asks socket.session;
            quiet = ap (λ (k : Kept). k.quiet) h.same;
          } in
          let text_is : after ≡ before ++ (frame_lines number (frames_in outcomes) ++ ending_lines number response.end) =
          told.text ∙ ap (λ z. before ++ (z ++ ending_lines number response.end)) (sym (reply_is number response.reply) ∙ ap (frame_lines number) frames) in
          let part = part_of number at goes_on response.end session desk before after (frame_lines number (frames_in outcomes) ++ ending_lines number response.end) then_s then_shards told.on text_is then_open come.lists in
          let whole : TakesPart goes_on number at session desk before after (outcome_turn number at outcomes then_s then_shards) =
          subst (λ e. TakesPart goes_on number at session desk before after (ends_as number at e (frame_lines number (frames_in outcomes) ++ ending_lines number e) then_s then_shards)) ends part in
          let done : TakesPart goes_on number at session desk before after (does number at a.user_data a.hears (heard_socket at s) shards) =
          subst (TakesPart goes_on number at session desk before after) (sym (does_as number at a.user_data a.hears asked (heard_socket at s) shards a.made come.came)) whole in (
            j.0,
            j.1,
            subst (λ d. TakesPart goes_on number at session desk before after (does number at d (judged (session_of config number at s) j.0) (heard_socket at s) shards)) (j.3 ∙ data_same j.0.verdict)
                (subst (λ m. TakesPart goes_on number at session desk before after (does number at a.user_data m (heard_socket at s) shards)) j.2 done),
          )
    ]

-- with its losses
pub hears_whole : (config : Config) (number at : ℕ) (text : List ℕ) (s : Socket) (shards : Shards) (goes_on : Bool) (session : Kept) (mid desk : DeskView) (old new : List ℕ)
    (r : Result (Option Kept) Memory) (part : HearsPart config number at text s shards goes_on session mid old new)
    → IfOk r (λ left. TakesTurn number left desk old new (hears config number at part.0 s shards)) → IfOk r (λ left. HearsAs config number at text s shards left desk old new)
hears_whole config number at text s shards goes_on session mid desk old new r part took =
    IfOk-weaker r (λ left. TakesTurn number left desk old new (hears config number at part.0 s shards)) (λ left. HearsAs config number at text s shards left desk old new)
    (λ left t. (part.0, part.1, t)) took

-- what is due of a silent socket was told, before the losses of its end
pub ticks_part : (number at : ℕ) (session ticked : Kept) (s : Socket) (shards : Shards) (desk : DeskView) (due : Due) (goes_on : Bool) (old new : List ℕ)
    → due ≡ due_of session.quiet at → ticked ≡ record session { quiet = quiet_after session.quiet at }
    → ((start n : ℕ) (asks : List SettledAsk) → IsSession session start n asks → IsSession ticked start n asks)
    → ((t : Socket) → IsOpen number ticked t → IsAt desk shards → TakesPart goes_on number at ticked desk old new (ticks_as number at due t shards))
    → IsOpen number session s → IsAt desk shards → TakesPart goes_on number at ticked desk old new (ticks number at s shards)
ticks_part number at session ticked s shards desk due goes_on old new is_due same stands told socket lists =
    let quiet : ticked.quiet ≡ quiet_after s.quiet at = ap (λ (k : Kept). k.quiet) same ∙ ap (λ q. quiet_after q at) socket.quiet in
    let open_still : IsOpen number ticked (record { is_open = s.is_open; quiet = quiet_after s.quiet at; asks = s.asks }) =
    record { lives = socket.lives; session = stands START_SECOND number s.asks socket.session; quiet = quiet } in
    subst (λ d. TakesPart goes_on number at ticked desk old new (ticks_as number at d (record { is_open = s.is_open; quiet = quiet_after s.quiet at; asks = s.asks }) shards))
    (is_due ∙ ap (λ q. due_of q at) socket.quiet) (told _ open_still lists)
