-- The turn of an open connection, from its parts.
use Rattle.std.proofs.Common.{◌≡◌, ◌≢◌, ℕ, ◌≤◌, ◌<◌, Bool, true, false, cond, List, [], ◌∷◌, ◌++◌, map, length, length-append, ap, sym, subst, refl, ◌∙◌, append-nil, inl, inr, arith}
use Rattle.std.specs.Prelude.{Option, Some, None, IfSome, is_some}
use Rattle.std.specs.Option.{option_or, option_to_list}
use Rattle.ch_base.specs.declared.frame.Frame.{Frame}
use Rattle.ch_config.specs.declared.config.Config.{Config}
use Rattle.ch_desk.specs.Views.{DeskView, IsDeskOf}
use Rattle.ch_desk.proofs.OwnEntries.{Makes-none}
use Rattle.ch_dispatch.specs.Outcomes.{frames_in, end_in}
use Rattle.ch_io.specs.Counts.{Rose}
use Rattle.ch_io.specs.declared.counts.Counts.{Counts}
use Rattle.ch_io.proofs.Counting.{Rose-after}
use Rattle.ch_net.specs.Wires.{WireTold, WireMoves}
use Rattle.ch_net.specs.declared.wire.Message.{Message}
use Rattle.ch_net.proofs.Moving.{WireMoves-then}
use Rattle.ch_base.specs.Printed.{printed}
use Rattle.ch_protocol.specs.Settling.{SettledAsk}
use Rattle.ch_session.specs.Kept.{Kept, IsSession, HasShardsOf}
use Rattle.ch_live.specs.Answers.{TurnHasCause, last_texts, closing_codes, LastHasCause}
use Rattle.ch_live.specs.Backlogs.{Held, marked, still_waiting, all_delivered}
use Rattle.ch_live.specs.Connections.{Connected, ends_at_once, looked_at, ticked}
use Rattle.ch_live.specs.Courses.{Course, IsAnswer}
use Rattle.ch_live.specs.Listening.{Listens, IsAnswerAfter}
use Rattle.ch_live.specs.Sent.{SendsFirst}
use Rattle.ch_live.specs.Turns.{EndsWith, IsTurn, Scene, TakesCourse}
use Rattle.ch_live.specs.declared.peer.Peer.{Peer}
use Rattle.ch_live.specs.declared.peer.Peer.TheVariants.{Open, Refused}
use Rattle.ch_live.specs.declared.sending.Sending.{Sending}
use Rattle.ch_live.specs.declared.turn.Turn.{Turn}
use Rattle.ch_live.specs.declared.turn.Turn.TheVariants.{Moved, Idle, Memory, Ended}
use Rattle.ch_live.specs.declared.turn.End.TheVariants as end
use Rattle.ch_live.proofs.Listenings.{no_loss, IsUnsaid, last_later}
use Rattle.ch_live.proofs.Wires.{moves_as}

-- ---- what looking at a connection changes

looked_session : (now : ℕ) (c : Connected) → (looked_at now c).session ≡ record c.session { quiet = (looked_at now c).session.quiet }
looked_session now c =
    let P : Bool → Type 0 = λ b. (cond b c (ticked now c)).session ≡ record c.session { quiet = (cond b c (ticked now c)).session.quiet } in
    elim (is_some (marked c.backlog)) as P [ true ↦ refl | false ↦ refl ]

looked_stands : (now : ℕ) (c : Connected) (start number : ℕ) (asks : List SettledAsk) → IsSession c.session start number asks
    → IsSession (looked_at now c).session start number asks
looked_stands now c start number asks is =
    subst (λ s. IsSession s start number asks) (sym (looked_session now c)) (record { started = is.started; numbered = is.numbered; tells = is.tells })

pub looked_start : (now : ℕ) (c : Connected) → (looked_at now c).session.start ≡ c.session.start
looked_start now c = ap (λ (s : Kept). s.start) (looked_session now c)

pub looked_over : (now : ℕ) (c : Connected) (config : Config) → HasShardsOf c.session config → HasShardsOf (looked_at now c).session config
looked_over now c config over = subst (λ s. HasShardsOf s config) (sym (looked_session now c)) (record { chans = over.chans; shards = over.shards })

-- ---- small facts

nothing_if : (P : Type 0) (o : Option ℕ) → o ≡ None → IfSome o (λ code. P)
nothing_if P None none = tt
nothing_if P (Some code) none = cc

always_if : {P : Type 0} (o : Option ℕ) → P → IfSome o (λ code. P)
always_if None p = tt
always_if (Some code) p = p

-- whether frames were sent shows in how many wait
sent_some : (sent left : List Frame) → length left < length (sent ++ left) → sent ≢ []
sent_some [] left shorter = absurd (omega (arith, shorter))
sent_some (f ∷ sent) left shorter = λ e. cc

sent_none : (sent left : List Frame) → length (sent ++ left) ≤ length left → sent ≡ []
sent_none [] left same = refl
sent_none (f ∷ sent) left same = absurd (omega (arith, length-append sent left, same))

-- a turn that doesn't end with a code says and closes nothing
unsaid : (c : Course) (old new : Counts) (r : Turn) → IsAnswer None c old new r → IsUnsaid r old new
unsaid c old new Moved a = record { texts = refl; codes = refl; last = tt }
unsaid c old new Idle a = record { texts = refl; codes = refl; last = tt }
unsaid c old new Memory a = record { texts = refl; codes = refl; last = tt }
unsaid c old new (Ended end.Peer) a = record { texts = refl; codes = refl; last = tt }
unsaid c old new (Ended end.Fault) a = record { texts = refl; codes = refl; last = tt }
unsaid c old new (Ended end.Memory) a = record { texts = refl; codes = refl; last = tt }
unsaid c old new (Ended (end.Code code farewell)) a = cc

-- a turn that ends with the code has it as its answer
ends_answer : (code : Option ℕ) (c : Course) (old new : Counts) (n : ℕ) (r : Turn) → EndsWith n r → code ≡ Some n → IsAnswer code c old new r
ends_answer code c old new n Moved e is = absurd e
ends_answer code c old new n Idle e is = absurd e
ends_answer code c old new n Memory e is = absurd e
ends_answer code c old new n (Ended end.Peer) e is = absurd e
ends_answer code c old new n (Ended end.Fault) e is = absurd e
ends_answer code c old new n (Ended end.Memory) e is = absurd e
ends_answer code c old new n (Ended (end.Code m farewell)) e is = is ∙ ap Some (sym e)

-- ---- a connection that ends at once

pub ends_here : (config : Config) (now : ℕ) (old new : Connected) (wire wire_new : WireTold) (desk : DeskView) (code : ℕ) (r : Turn) → Some code ≡ ends_at_once now old
    → new ≡ looked_at now old → EndsWith code r → WireMoves wire wire_new [] (last_texts r) (closing_codes r) → LastHasCause r wire.counts wire_new.counts
    → (course : Course) × TakesCourse config now course (record { connection = old; wire = wire; desk = desk }) (record { connection = new; wire = wire_new; desk = desk }) r
ends_here config now old new wire wire_new desk code r ends looked with_code moves last =
    let kept = (looked_at now old).backlog.frames in
    let course : Course = record { sent = []; kept = kept; received = None; lost = []; asked = []; outcomes = [] } in (
      course,
      record {
        frames = refl;
        moves = moves;
        last = last;
        lost = no_loss r;
        one_way = inr refl;
        at_once = always_if (ends_at_once now old) (refl, refl);
        answers = λ start number asks is. (refl, refl);
        settles = λ start number asks is. subst (λ (c : Connected). IsSession c.session start number asks) (sym looked) (looked_stands now old start number asks is);
        calls = Makes-none desk;
        waits = ap (λ (c : Connected). c.backlog) looked;
        quiet = ap (λ (c : Connected). c.session.quiet) looked;
        same = ap (λ (c : Connected). c.session) looked ∙ looked_session now old ∙ ap (λ (c : Connected). record old.session { quiet = c.session.quiet }) (sym looked)
            ∙ ap (λ t. record old.session { told = t; quiet = new.session.quiet }) (sym (ap (λ (c : Connected). c.session.told) looked ∙ ap (λ (s : Kept). s.told) (looked_session now old)));
        used = ap (λ (c : Connected). length c.session.told.used) looked ∙ ap (λ (s : Kept). length s.told.used) (looked_session now old);
        answer = ends_answer (option_or (ends_at_once now old) None) course wire.counts wire_new.counts code r with_code (ap (λ o. option_or o None) (sym ends));
      },
    )

-- ---- a connection that sends

module _ (config : Config) (now : ℕ) (old : Connected) (held : Held) (wire mid : WireTold) (desk : DeskView) (sending : Sending)
    (s : SendsFirst old.session.start (looked_at now old).backlog held wire mid sending) (goes_on : ends_at_once now old ≡ None) where
  abbrev between : Connected
  between = record { session = (looked_at now old).session; backlog = held }

  no_code : (code : Option ℕ) → option_or (ends_at_once now old) code ≡ code
  no_code code = ap (λ o. option_or o code) goes_on

  abbrev texts : List (List ℕ)
  texts = map (λ f. printed f old.session.start) s.sent

  -- it stops there
  pub stops_here : (result : Turn) → IsAnswer None (record { sent = s.sent; kept = held.frames; received = None; lost = []; asked = []; outcomes = [] }) wire.counts mid.counts result
      → (course : Course) × TakesCourse config now course (record { connection = old; wire = wire; desk = desk }) (record { connection = between; wire = mid; desk = desk }) result
  stops_here result answer =
      let course : Course = record { sent = s.sent; kept = held.frames; received = None; lost = []; asked = []; outcomes = [] } in
      let silent = unsaid course wire.counts mid.counts result answer in (
        course,
        record {
          frames = s.frames;
          moves = moves_as wire mid _ _ _ _ _ _ refl (sym (append-nil texts) ∙ ap (λ z. texts ++ z) silent.texts) silent.codes s.moves;
          last = silent.last;
          lost = no_loss result;
          one_way = inr refl;
          at_once = nothing_if _ (ends_at_once now old) goes_on;
          answers = λ start number asks is. (refl, refl);
          settles = λ start number asks is. looked_stands now old start number asks is;
          calls = Makes-none desk;
          waits = s.marks;
          quiet = refl;
          same = looked_session now old ∙ ap (λ t. record old.session { told = t; quiet = between.session.quiet }) (sym (ap (λ (k : Kept). k.told) (looked_session now old)));
          used = ap (λ (k : Kept). length k.told.used) (looked_session now old);
          answer = subst (λ code. IsAnswer code course wire.counts mid.counts result) (sym (no_code None)) answer;
        },
      )

  answer_after : (moved : Bool) (code : Option ℕ) (received : Option Message) (new : Counts) (course : Course) → course.received ≡ received
      → course.kept ≡ [] → (moved ≡ true → course.sent ≢ []) → (moved ≡ false → course.sent ≡ []) → (result : Turn)
      → IsAnswerAfter moved code received mid.counts new result → IsAnswer code course wire.counts new result
  answer_after moved code received new course is none some_sent none_sent Moved a = (
    a.0,
    elim a.1 [ inl m ↦ inl (some_sent m) | inr r ↦ inr (λ e. r (sym is ∙ e)) ],
    λ e. Rose-after wire.counts.stalls mid.counts.stalls new.stalls s.moves.counts.stalls (a.2 (sym is ∙ e)),
  )
  answer_after moved code received new course is none some_sent none_sent Idle a =
      (a.0, none_sent a.1, is ∙ a.2, Rose-after wire.counts.stalls mid.counts.stalls new.stalls s.moves.counts.stalls a.3)
  answer_after moved code received new course is none some_sent none_sent Memory a = absurd a
  answer_after moved code received new course is none some_sent none_sent (Ended end.Peer) a =
      (a.0, is ∙ a.1, none, Rose-after wire.counts.ends mid.counts.ends new.ends s.moves.counts.ends a.2)
  answer_after moved code received new course is none some_sent none_sent (Ended end.Fault) a =
      (a.0, is ∙ a.1, Rose-after wire.counts.faults mid.counts.faults new.faults s.moves.counts.faults a.2)
  answer_after moved code received new course is none some_sent none_sent (Ended end.Memory) a = (a.0, is ∙ a.1, none)
  answer_after moved code received new course is none some_sent none_sent (Ended (end.Code n farewell)) a = a

  -- it goes on and receives
  pub goes_on_to : (moved : Bool) (new : Connected) (wire_new : WireTold) (desk_new : DeskView) (result : Turn) → held.frames ≡ []
      → (moved ≡ true → s.sent ≢ []) → (moved ≡ false → s.sent ≡ [])
      → Listens config now moved (record { connection = between; wire = mid; desk = desk }) (record { connection = new; wire = wire_new; desk = desk_new }) result
      → (course : Course) × TakesCourse config now course (record { connection = old; wire = wire; desk = desk }) (record { connection = new; wire = wire_new; desk = desk_new }) result
  goes_on_to moved new wire_new desk_new result none some_sent none_sent l =
      let course : Course = record { sent = s.sent; kept = held.frames; received = l.received; lost = l.lost; asked = l.asked; outcomes = l.outcomes } in (
        course,
        record {
          frames = s.frames;
          moves = WireMoves-then wire mid wire_new [] (option_to_list l.received ++ l.lost) texts (last_texts result) [] (closing_codes result) s.moves l.moves;
          last = last_later result wire.counts mid.counts wire_new.counts s.moves.counts.stalls s.moves.counts.faults l.last;
          lost = l.is_lost;
          one_way = inl none;
          at_once = nothing_if _ (ends_at_once now old) goes_on;
          answers = λ start number asks is. l.answers start number asks (looked_stands now old start number asks is);
          settles = λ start number asks is. l.settles start number asks (looked_stands now old start number asks is);
          calls = l.calls;
          waits = l.waits ∙ ap (λ h. all_delivered h (frames_in l.outcomes)) s.marks;
          quiet = l.quiet;
          same = l.same ∙ ap (λ (k : Kept). record k { told = new.session.told; quiet = new.session.quiet }) (looked_session now old);
          used = l.used ∙ ap (λ (k : Kept). length k.told.used) (looked_session now old);
          answer = subst (λ code. IsAnswer code course wire.counts wire_new.counts result) (sym (no_code (end_in l.outcomes)))
              (answer_after moved (end_in l.outcomes) l.received wire_new.counts course refl none some_sent none_sent result l.answer);
        },
      )

-- ---- the parts of the turn, as its code has them

module _ (config : Config) (now : ℕ) (old : Connected) (session : Kept) (backlog held : Held) (start : ℕ) (wire mid : WireTold) (desk : DeskView) (sending : Sending)
    (s : SendsFirst start backlog held wire mid sending) (goes_on : None ≡ ends_at_once now old)
    (looked : record { session = session; backlog = backlog } ≡ looked_at now old) (begun : start ≡ session.start) where
  is_session : session ≡ (looked_at now old).session
  is_session = ap (λ (c : Connected). c.session) looked

  is_backlog : backlog ≡ (looked_at now old).backlog
  is_backlog = ap (λ (c : Connected). c.backlog) looked

  is_start : start ≡ old.session.start
  is_start = begun ∙ ap (λ (k : Kept). k.start) is_session ∙ looked_start now old

  abbrev sends : SendsFirst old.session.start (looked_at now old).backlog held wire mid sending
  sends = record {
    sent = s.sent;
    frames = sym (ap (λ (h : Held). h.frames) is_backlog) ∙ s.frames;
    marks = s.marks ∙ ap (λ h. still_waiting h held.frames) is_backlog;
    moves = subst (λ n. WireMoves wire mid [] (map (λ f. printed f n) s.sent) []) is_start s.moves;
    stops = s.stops;
  }

  moved_some : length held.frames < length backlog.frames → s.sent ≢ []
  moved_some shorter = sent_some s.sent held.frames (subst (λ xs. length held.frames < length xs) s.frames shorter)

  moved_none : length backlog.frames ≤ length held.frames → s.sent ≡ []
  moved_none same = sent_none s.sent held.frames (subst (λ xs. length xs ≤ length held.frames) s.frames same)

  pub turn_stops : (result : Turn) → IsAnswer None (record { sent = s.sent; kept = held.frames; received = None; lost = []; asked = []; outcomes = [] }) wire.counts mid.counts result
      → (course : Course) × TakesCourse config now course (record { connection = old; wire = wire; desk = desk })
      (record { connection = record { session = session; backlog = held }; wire = mid; desk = desk }) result
  turn_stops result answer =
      subst (λ k. (course : Course) × TakesCourse config now course (record { connection = old; wire = wire; desk = desk })
      (record { connection = record { session = k; backlog = held }; wire = mid; desk = desk }) result) (sym is_session)
      (stops_here config now old held wire mid desk sending sends (sym goes_on) result answer)

  patient : (moved : Bool) → (moved ≡ true → length held.frames < length backlog.frames) → (moved ≡ false → length backlog.frames ≤ length held.frames)
      → Rose wire.counts.stalls mid.counts.stalls
      → IsAnswer None (record { sent = s.sent; kept = held.frames; received = None; lost = []; asked = []; outcomes = [] }) wire.counts mid.counts (cond moved Moved Idle)
  patient true some none rose = (refl, inl (moved_some (some refl)), λ e. rose)
  patient false some none rose = (refl, moved_none (none refl), refl, rose)

  pub turn_waits : (moved : Bool) → (moved ≡ true → length held.frames < length backlog.frames) → (moved ≡ false → length backlog.frames ≤ length held.frames)
      → Rose wire.counts.stalls mid.counts.stalls → (result : Turn) → result ≡ cond moved Moved Idle
      → (course : Course) × TakesCourse config now course (record { connection = old; wire = wire; desk = desk })
      (record { connection = record { session = session; backlog = held }; wire = mid; desk = desk }) result
  turn_waits moved some none rose result is =
      turn_stops result
      (subst (λ r. IsAnswer None (record { sent = s.sent; kept = held.frames; received = None; lost = []; asked = []; outcomes = [] }) wire.counts mid.counts r)
      (sym is) (patient moved some none rose))

  pub turn_receives : (moved : Bool) → (moved ≡ true → length held.frames < length backlog.frames) → (moved ≡ false → length backlog.frames ≤ length held.frames)
      → held.frames ≡ [] → (new : Connected) (wire_new : WireTold) (desk_new : DeskView) (result : Turn)
      → Listens config now moved (record { connection = record { session = session; backlog = held }; wire = mid; desk = desk })
      (record { connection = new; wire = wire_new; desk = desk_new }) result
      → (course : Course) × TakesCourse config now course (record { connection = old; wire = wire; desk = desk })
      (record { connection = new; wire = wire_new; desk = desk_new }) result
  turn_receives moved some none empty new wire_new desk_new result l =
      goes_on_to config now old held wire mid desk sending sends (sym goes_on) moved new wire_new desk_new result empty
      (λ m. moved_some (some m)) (λ m. moved_none (none m))
      (subst (λ k. Listens config now moved (record { connection = record { session = k; backlog = held }; wire = mid; desk = desk })
      (record { connection = new; wire = wire_new; desk = desk_new }) result) is_session l)

pub course_over : (config : Config) (now : ℕ) (c : Course) (old new : Scene) (r : Turn) → TakesCourse config now c old new r → HasShardsOf old.connection.session config
    → HasShardsOf new.connection.session config
course_over config now c old new r t over = record { chans = ap (λ (s : Kept). s.chans) t.same ∙ over.chans; shards = t.used ∙ over.shards }

-- ---- the turn of any live socket

abbrev nothing_done : Course
nothing_done = record { sent = []; kept = []; received = None; lost = []; asked = []; outcomes = [] }

-- one that was turned away
pub turned_away : (config : Config) (now code : ℕ) (old new : Peer) (wire wire_new : WireTold) (desk : DeskView) (r : Turn) → old ≡ Refused code → new ≡ Refused code
    → EndsWith code r → WireMoves wire wire_new [] (last_texts r) (closing_codes r) → LastHasCause r wire.counts wire_new.counts
    → (course : Course) × IsTurn config now course old new wire wire_new desk desk r
turned_away config now code old new wire wire_new desk r was is ends moves last =
    subst (λ p. (course : Course) × IsTurn config now course p new wire wire_new desk desk r) (sym was)
    (subst (λ p. (course : Course) × IsTurn config now course (Refused code) p wire wire_new desk desk r) (sym is)
    (nothing_done, (refl, record { answer = ends; moves = moves; last = last; none = refl; calls = Makes-none desk })))

-- one that is open
pub open_turn : (config : Config) (now : ℕ) (x y : Connected) (old new : Peer) (wire wire_new : WireTold) (desk desk_new : DeskView) (r : Turn) → old ≡ Open x → new ≡ Open y
    → (course : Course) × TakesCourse config now course (record { connection = x; wire = wire; desk = desk }) (record { connection = y; wire = wire_new; desk = desk_new }) r
    → (course : Course) × IsTurn config now course old new wire wire_new desk desk_new r
open_turn config now x y old new wire wire_new desk desk_new r was is t =
    subst (λ p. (course : Course) × IsTurn config now course p new wire wire_new desk desk_new r) (sym was)
    (subst (λ p. (course : Course) × IsTurn config now course (Open x) p wire wire_new desk desk_new r) (sym is) (t.0, t.1))

-- the desk has the shards that it had
pub turn_desk : (config : Config) (now : ℕ) (course : Course) (old new : Peer) (wire wire_new : WireTold) (desk desk_new : DeskView) (r : Turn)
    → IsTurn config now course old new wire wire_new desk desk_new r → IsDeskOf config desk → IsDeskOf config desk_new
turn_desk config now course (Refused code) (Refused same) wire wire_new desk desk_new r t is =
    record { chan_shards = t.1.calls.same.chan_shards ∙ is.chan_shards; user_shards = t.1.calls.same.user_shards ∙ is.user_shards }
turn_desk config now course (Open x) (Open y) wire wire_new desk desk_new r t is =
    record { chan_shards = t.calls.same.chan_shards ∙ is.chan_shards; user_shards = t.calls.same.user_shards ∙ is.user_shards }
turn_desk config now course (Refused code) (Open y) wire wire_new desk desk_new r t is = absurd t
turn_desk config now course (Open x) (Refused same) wire wire_new desk desk_new r t is = absurd t

-- ---- the causes of the answers

answered : (code : Option ℕ) (c : Course) (old new : Counts) (r : Turn) → IsAnswer code c old new r → TurnHasCause r old new
answered code c old new Moved a = tt
answered code c old new Idle a = a.3
answered code c old new Memory a = tt
answered code c old new (Ended end.Peer) a = a.3
answered code c old new (Ended end.Fault) a = a.2
answered code c old new (Ended end.Memory) a = tt
answered code c old new (Ended (end.Code n farewell)) a = tt

ended_so : (code : ℕ) (old new : Counts) (r : Turn) → EndsWith code r → TurnHasCause r old new
ended_so code old new Moved e = absurd e
ended_so code old new Idle e = absurd e
ended_so code old new Memory e = absurd e
ended_so code old new (Ended end.Peer) e = absurd e
ended_so code old new (Ended end.Fault) e = absurd e
ended_so code old new (Ended end.Memory) e = absurd e
ended_so code old new (Ended (end.Code n farewell)) e = tt

pub turn_cause : (config : Config) (now : ℕ) (course : Course) (old new : Peer) (wire wire_new : WireTold) (desk desk_new : DeskView) (r : Turn)
    → IsTurn config now course old new wire wire_new desk desk_new r → TurnHasCause r wire.counts wire_new.counts
turn_cause config now course (Refused code) (Refused same) wire wire_new desk desk_new r t = ended_so code wire.counts wire_new.counts r t.1.answer
turn_cause config now course (Open x) (Open y) wire wire_new desk desk_new r t =
    answered (option_or (ends_at_once now x) (end_in course.outcomes)) course wire.counts wire_new.counts r t.answer
turn_cause config now course (Refused code) (Open y) wire wire_new desk desk_new r t = absurd t
turn_cause config now course (Open x) (Refused same) wire wire_new desk desk_new r t = absurd t
