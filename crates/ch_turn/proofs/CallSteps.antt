-- Each step of a call keeps the rule.
use Rattle.std.proofs.Common.{◌≡◌, ◌≢◌, ℕ, zero, suc, ◌+◌, ◌*◌, ◌%◌, ◌^◌, ◌<◌, ◌≤◌, List, [], ◌∷◌, ◌++◌, length, get_or, set, sym, refl, ap, ◌∙◌, subst, arith, append_assoc, length-append, le_refl}
use Rattle.std.proofs.lemmas.List.{append-nil}
use Rattle.std.proofs.lemmas.List.Elements.{All-push}
use Rattle.std.proofs.Math.Nat.{mod-eq_of_lt}
use mathlib.Core.Logic.{dite}
use mathlib.Core.Option.{Option, none, some, some-injective}
use native.Mathlib.Decide.{ℕ_discrete}
use lib.ListN.{get_elem?}
use Rattle.atomic_table.specs.Table.{State, Me, step, Act, keeps, takes, gives, homes_after, carried_after, put_back, rest, Valid, Allows}
use Rattle.atomic_table.proofs.Lists.{set_here, set_again}
use Rattle.std.specs.declared.snapshot.Snapshot.{Snapshot}
use Rattle.ch_base.specs.declared.entry.Entry.{Entry}
use Rattle.ch_base.specs.Growth.{entry}
use Rattle.ch_turn.specs.declared.limits.TheConstants.{MOST_CALLS}
use Rattle.ch_turn.specs.declared.table.View.{View}
use Rattle.ch_turn.specs.declared.table.Stage.{Stage}
use Rattle.ch_turn.specs.declared.table.Stage.TheVariants.{Idle, Waits, Holds, Recorded}
use Rattle.ch_turn.specs.declared.table.Slot.{Slot}
use Rattle.ch_turn.specs.declared.table.Slot.TheVariants.{Value, Taken, Pending}
use Rattle.ch_turn.specs.Callers.{CallersBelow}
use Rattle.ch_turn.specs.Tickets.{HasTicket, HasTurn}
use Rattle.ch_turn.specs.Views.{calls_of, callers_of}
use Rattle.ch_turn.specs.LockRule.{StageFits, SeatFits, Stored, Kept}
use Rattle.ch_turn.specs.StepEffects.{Draws, Arrives, Looks, Commits, Advances}
use Rattle.ch_turn.specs.SeatStates.{Rests}
use Rattle.ch_turn.proofs.Numbering.{put, put_here, put_else}
use Rattle.ch_turn.proofs.ViewLists.{inside, stays_at, seats_stay, total_set, total_le}
use Rattle.ch_turn.proofs.RuleParts.{no_ticket, no_turn, same_ticket, ticket_range, turn_facts, others_fit, stored_stays, stored_away}

-- the ticket of a stage
abbrev ticket_or : ℕ → Stage → ℕ
ticket_or d Idle = d
ticket_or d (Waits t) = t
ticket_or d (Holds t) = t
ticket_or d (Recorded t) = t

-- the call and the answer of what is pending
abbrev call_or : {T C A : Type 0} → Snapshot C → Slot T C A → Snapshot C
call_or d (Pending call answer) = call
call_or d _ = d

abbrev answer_or : {T C A : Type 0} → Snapshot A → Slot T C A → Snapshot A
answer_or d (Pending call answer) = answer
answer_or d _ = d

abbrev first_or : {S : Type 0} → S → List (ℕ × S) → S
first_or d [] = d
first_or d (x ∷ xs) = x.1

module _ {T C A : Type 0} (place_of : T → ℕ × ℕ) (legal : ℕ × ℕ → List (Entry C A) → Type 0) (stands : T → List (Entry C A) → Type 0) (place : ℕ × ℕ) (callers : ℕ) where
  abbrev E : Type 0
  E = Entry C A

  abbrev V : Type 0
  V = View C A

  abbrev S : Type 0
  S = Slot T C A

  abbrev St : Type 0
  St = State S V

  abbrev M : Type 0
  M = Me S V

  abbrev Rule : St → Type 0
  Rule = Kept place_of legal stands place callers

  -- the step's goal, where the words are ws
  abbrev Goal : St → ℕ → M → ℕ → (ℕ → ℕ) → (ℕ → M → Type 0) → List ℕ → Type 0
  Goal s id me i f then ws = (w : V) × (a : Act S) × Valid s.homes me.1 a × Rule record { words = set ws i (f (get_or ws i 0)); homes = homes_after s.homes me.1 a; views = set s.views id w } × then (get_or ws i 0) (w, carried_after me.1 a)

  -- few tickets are drawn
  ticket_small : (s : St) (r : Rule s) → r.ticket ≤ 2 ^ 62
  ticket_small s r = let h = total_le s.views (λ i v e. (r.each_seat i v e).few_calls) in let a = r.all_calls in let b = r.all_callers in let c = r.order.2 in
      let m : r.ticket ≤ callers * MOST_CALLS = subst (λ (z : ℕ × ℕ). z.0 ≤ z.1 * MOST_CALLS) (λ i. (a i, b i)) h in omega arith

  -- a seat between two calls draws the next ticket
  pub draw_keeps : (slots id : ℕ) (me : M) → Rests me → me.0.calls < MOST_CALLS → Allows Rule slots id me 0 (λ n. (n + 1) % 2 ^ 64) (Draws (step slots 0 1 0 none) me)
  draw_keeps slots id me rests few s r _ at _ =
      let one = rests.one_caller in
      let f = r.each_seat id me.0 at in
      let w : V = record me.0 { stage = Waits r.ticket; calls = me.0.calls + 1 } in
      let owner' : ℕ → ℕ = put r.owner r.ticket id in
      let small = ticket_small s r in
      let up : (r.ticket + 1) % 2 ^ 64 ≡ r.ticket + 1 = mod-eq_of_lt (omega arith) in
      let below = r.order.0 in
      let apart : (t : ℕ) → t < r.ticket → owner' t ≡ r.owner t = λ t l. put_else r.owner r.ticket id t (λ e. omega arith) in
      let none_mine : (t : ℕ) → HasTicket t me.0.stage → ⊥ = λ t h. no_ticket me.0.stage rests.idle t h in
      let none_turn : (t : ℕ) → HasTurn t me.0.stage → ⊥ = λ t h. no_turn me.0.stage rests.idle t h in
      subst (Goal s id me 0 (λ n. (n + 1) % 2 ^ 64) (Draws (step slots 0 1 0 none) me)) (sym r.words) (
        w,
        keeps,
        tt,
        record {
          log = r.log;
          ticket = r.ticket + 1;
          serving = r.serving;
          phase = r.phase;
          owner = owner';
          holder = r.holder;
          words = ap (λ (n : ℕ). n ∷ r.serving ∷ length r.log ∷ []) up;
          order = (omega arith, r.order.1, r.order.2);
          few_entries = r.few_entries;
          is_legal = r.is_legal;
          known_callers = r.known_callers;
          stored = stored_stays place_of legal stands place r.log (r.owner r.serving) (owner' r.serving) s.homes s.views (set s.views id w) r.phase
              (λ _ h. let z = stays_at (λ (u : V). (t : ℕ) × HasTurn t u.stage) s.views id me.0 w at (r.owner r.serving) (λ q. absurd (none_turn q.0 q.1)) h in
              let g = r.each_seat (r.owner r.serving) h.0 h.1 in
              let facts = turn_facts g.unseen r.serving r.phase r.ticket h.2.0 h.0.stage g.staged h.2.1 in
              let l : r.serving < r.ticket = (let a = facts.0 in let b = facts.1 in omega arith) in
              (z.0, ap (get_elem? (set s.views id w)) (apart r.serving l) ∙ z.1, z.2)) r.stored;
          each_seat = seats_stay (SeatFits place callers r.log (r.ticket + 1) r.serving r.phase owner' r.holder) s.views id w
              record {
                unseen = f.unseen;
                seen_begins = f.seen_begins;
                untold = f.untold;
                told_begins = f.told_begins;
                range = f.range;
                held = f.held;
                few_calls = omega arith;
                staged = (below, omega arith);
                owned = λ t h. (ap owner' (sym h) ∙ put_here r.owner r.ticket id, one, rests.live, rests.merged);
                placed = f.placed;
              }
              (λ j d other e. let g = r.each_seat j d e in others_fit place callers r.log r.log [] r.ticket (r.ticket + 1) r.serving r.serving r.phase r.phase r.owner owner' r.holder j d g
              (omega arith) (append-nil r.log) (λ _ _. tt)
              (λ t h. let z = ticket_range g.unseen r.serving r.phase r.ticket t d.stage g.staged h in (z.0, apart t z.1)) (λ _ _. (refl, refl, refl)));
          each_ticket = λ t a b. dite (ℕ_discrete t r.ticket)
              (λ e. (w, ap (get_elem? (set s.views id w)) (ap owner' e ∙ put_here r.owner r.ticket id) ∙ set_here s.views id w (inside s.views id me.0 at), sym e))
              (λ other. let l : t < r.ticket = omega arith in let z = stays_at (λ (u : V). HasTicket t u.stage) s.views id me.0 w at (r.owner t) (λ q. absurd (none_mine t q)) (r.each_ticket t a l) in
              (z.0, ap (get_elem? (set s.views id w)) (apart t l) ∙ z.1, z.2));
          each_caller = λ i l. stays_at (λ (u : V). (u.low ≤ i) × (i < u.high)) s.views id me.0 w at (r.holder i) (λ q. q) (r.each_caller i l);
          all_calls = (let z = total_set calls_of s.views id me.0 w at in let d = r.all_calls in omega arith);
          all_callers = (let z = total_set callers_of s.views id me.0 w at in let d = r.all_callers in omega arith);
        },
        (refl, refl),
      )

  -- a seat keeps its view
  keeps_view : (s : St) (r : Rule s) (id : ℕ) (v : V) → get_elem? s.views id ≡ some v → Rule record { words = r.ticket ∷ r.serving ∷ length r.log ∷ []; homes = s.homes; views = set s.views id v }
  keeps_view s r id v at = subst Rule (λ i. record { words = r.words i; homes = s.homes; views = sym (set_again s.views id v at) i }) r

  -- the ticket of a seat that waits is served: a value is at home, and the seat takes it
  turn_comes : (s : St) (r : Rule s) (id : ℕ) (me : M) (t : ℕ) → me.0.stage ≡ Waits t → get_elem? s.views id ≡ some me.0 → r.serving ≡ t
      → (p : ℕ) → r.phase ≡ p → Stored place_of legal stands place r.log (r.owner r.serving) s.homes s.views p
      → (x : T) × (v : V)
      × (get_elem? s.homes 0 ≡ some (some (Value x)))
      × Rule record { words = r.ticket ∷ r.serving ∷ length r.log ∷ []; homes = set s.homes 0 none; views = set s.views id v }
      × Arrives place_of legal stands t me.0 x v
  turn_comes s r id me t waits at hit zero home st =
      let f = r.each_seat id me.0 at in
      let more : List E = f.unseen in
      let has : HasTicket t me.0.stage = subst (HasTicket t) (sym waits) refl in
      let o = f.owned t has in
      let one = o.1 in
      let merged = o.3 in
      let fits = subst (StageFits f.unseen r.serving r.phase r.ticket) waits f.staged in
      let whole : r.log ≡ me.0.seen ++ more = sym f.seen_begins in
      let here : place ≡ me.0.place = sym (f.placed o.2).0 in
      let w : V = record me.0 { stage = Holds t; seen = me.0.seen ++ more } in
      let no_turn : (j : ℕ) (d : V) (k : ℕ) → get_elem? s.views j ≡ some d → HasTurn k d.stage → ⊥ = (λ j d k e h. let g = r.each_seat j d e in let facts = turn_facts g.unseen r.serving r.phase r.ticket k d.stage g.staged h in let c = facts.2 in absurd (omega arith)) in
      let begun = r.few_entries in
      let there : r.owner r.serving ≡ id = ap r.owner hit ∙ o.0 in (
        st.0,
        w,
        ap (λ (h : List (Option S)). get_elem? h 0) st.1,
        record {
          log = r.log;
          ticket = r.ticket;
          serving = r.serving;
          phase = 1;
          owner = r.owner;
          holder = r.holder;
          words = refl;
          order = (r.order.0, omega arith, r.order.2);
          few_entries = omega arith;
          is_legal = r.is_legal;
          known_callers = r.known_callers;
          stored = (ap (λ (h : List (Option S)). set h 0 none) st.1, w, ap (get_elem? (set s.views id w)) there ∙ set_here s.views id w (inside s.views id me.0 at), (t, refl));
          each_seat = seats_stay (SeatFits place callers r.log r.ticket r.serving 1 r.owner r.holder) s.views id w
              record {
                unseen = [];
                seen_begins = append-nil (me.0.seen ++ more) ∙ f.seen_begins;
                untold = f.untold;
                told_begins = f.told_begins;
                range = f.range;
                held = λ i a b. ((f.held i a b).0, (λ _. tt), (f.held i a b).2);
                few_calls = f.few_calls;
                staged = (sym hit, fits.1, refl, refl);
                owned = λ k h. (ap r.owner (sym h) ∙ o.0, o.1, o.2, o.3);
                placed = f.placed;
              }
              (λ j d other e. let g = r.each_seat j d e in others_fit place callers r.log r.log [] r.ticket r.ticket r.serving r.serving r.phase 1 r.owner r.owner r.holder j d g
              (le_refl r.ticket) (append-nil r.log) (λ _ _. tt)
              (λ k h. ((ticket_range g.unseen r.serving r.phase r.ticket k d.stage g.staged h).0, refl)) (λ k h. absurd (no_turn j d k e h)));
          each_ticket = λ k a b. stays_at (λ (u : V). HasTicket k u.stage) s.views id me.0 w at (r.owner k) (λ q. subst (HasTicket k) waits q) (r.each_ticket k a b);
          each_caller = λ i l. stays_at (λ (u : V). (u.low ≤ i) × (i < u.high)) s.views id me.0 w at (r.holder i) (λ q. q) (r.each_caller i l);
          all_calls = (let z = total_set calls_of s.views id me.0 w at in let d = r.all_calls in omega arith);
          all_callers = (let z = total_set callers_of s.views id me.0 w at in let d = r.all_callers in omega arith);
        },
        record {
          between = more;
          others = (f.held me.0.low (le_refl me.0.low) (omega arith)).1 (omega arith);
          view = refl;
          lawful = subst (λ (z : (ℕ × ℕ) × List E). legal z.0 z.1) (λ i. (here i, whole i)) r.is_legal;
          known = subst (λ (z : ℕ × List E). CallersBelow z.0 z.1) (λ i. (sym (f.placed o.2).1 i, whole i)) r.known_callers;
          right = subst (stands st.0) whole st.2;
          placed = st.3 ∙ here;
        },
      )
  turn_comes s r id me t waits at hit (suc p) away st =
      let f = r.each_seat id me.0 at in
      let o = f.owned t (subst (HasTicket t) (sym waits) refl) in
      let same : st.1 ≡ me.0 = some-injective st.1 me.0 (sym st.2 ∙ (ap (get_elem? s.views) (ap r.owner hit ∙ o.0) ∙ at)) in
      absurd (subst (HasTurn st.3.0) (ap (λ (v : V). v.stage) same ∙ waits) st.3.1)

  -- a seat that waits looks whether its ticket is served
  pub look_keeps : (slots id : ℕ) (me : M) (t : ℕ) → me.0.stage ≡ Waits t → Allows Rule slots id me 1 (λ n. n) (Looks place_of legal stands (step slots 1 0 0 none) me)
  look_keeps slots id me t waits s r _ at _ = subst (Goal s id me 1 (λ n. n) (Looks place_of legal stands (step slots 1 0 0 none) me)) (sym r.words)
      (dite (ℕ_discrete r.serving t)
      (λ hit. let h = turn_comes s r id me t waits at hit r.phase refl r.stored in (
        h.1,
        takes 0 (Value h.0),
        h.2,
        h.3,
        λ k waits'. let same : t ≡ k = ap (ticket_or t) (sym waits ∙ waits') in
            ((λ _. (h.0, refl, subst (λ (z : ℕ). Arrives place_of legal stands z me.0 h.0 h.1) same h.4)), λ miss. absurd (miss (hit ∙ same))),
      ))
      (λ miss. (
        me.0,
        keeps,
        tt,
        keeps_view s r id me.0 at,
        λ k waits'. let same : t ≡ k = ap (ticket_or t) (sym waits ∙ waits') in ((λ hit. absurd (miss (hit ∙ sym same))), λ _. refl),
      )))

  -- the pending call of the seat that has its turn is entered, where it is legal
  pub commit_keeps : (slots id : ℕ) (me : M) (t : ℕ) (call : Snapshot C) (answer : Snapshot A) → me.0.stage ≡ Holds t → me.1 ≡ (0, Pending call answer) ∷ []
      → legal me.0.place (me.0.seen ++ entry me.0.low call.value answer.value ∷ []) → Allows Rule slots id me 2 (λ n. (n + 1) % 2 ^ 64) (Commits (step slots 2 1 0 none) me)
  commit_keeps slots id me t call answer has note lawful s r _ at _ =
      let f = r.each_seat id me.0 at in
      let e : E = entry me.0.low call.value answer.value in
      let w : V = record me.0 { stage = Recorded t; seen = me.0.seen ++ e ∷ [] } in
      let turned : HasTurn t me.0.stage = subst (HasTurn t) (sym has) refl in
      let facts = turn_facts f.unseen r.serving r.phase r.ticket t me.0.stage f.staged turned in
      let o = f.owned t facts.4 in
      let one = o.1 in
      let merged = o.3 in
      let fits = subst (StageFits f.unseen r.serving r.phase r.ticket) has f.staged in
      let held : r.phase ≡ 1 = fits.2 in
      let hit : t ≡ r.serving = fits.0 in
      let drawn : t < r.ticket = fits.1 in
      let whole : me.0.seen ≡ r.log = sym (append-nil me.0.seen) ∙ (ap (λ l. me.0.seen ++ l) (sym fits.3) ∙ f.seen_begins) in
      let small = ticket_small s r in
      let begun = r.few_entries in
      let up : (length r.log + 1) % 2 ^ 64 ≡ length (r.log ++ e ∷ []) = mod-eq_of_lt (omega arith) ∙ omega (arith, length-append r.log (e ∷ [])) in
      let no_turn : (j : ℕ) (d : V) (k : ℕ) → j ≢ id → get_elem? s.views j ≡ some d → HasTurn k d.stage → ⊥ = (λ j d k other there h. let g = r.each_seat j d there in
      let q = turn_facts g.unseen r.serving r.phase r.ticket k d.stage g.staged h in
      let theirs = g.owned k q.4 in other (sym theirs.0 ∙ (ap r.owner (q.0 ∙ sym hit) ∙ o.0))) in
      let same_owner : r.owner r.serving ≡ id = ap r.owner (sym hit) ∙ o.0 in
      subst (Goal s id me 2 (λ n. (n + 1) % 2 ^ 64) (Commits (step slots 2 1 0 none) me)) (sym r.words) (
        w,
        keeps,
        tt,
        record {
          log = r.log ++ e ∷ [];
          ticket = r.ticket;
          serving = r.serving;
          phase = 2;
          owner = r.owner;
          holder = r.holder;
          words = ap (λ (n : ℕ). r.ticket ∷ r.serving ∷ n ∷ []) up;
          order = (r.order.0, omega arith, r.order.2);
          few_entries = omega (arith, length-append r.log (e ∷ []));
          is_legal = subst (λ (z : (ℕ × ℕ) × List E). legal z.0 z.1) (λ i. ((f.placed o.2).0 i, whole i ++ e ∷ [])) lawful;
          known_callers = let range = f.range in All-push (λ d. d.caller < callers) r.log e r.known_callers (omega arith);
          stored = (stored_away place_of legal stands place r.log (r.owner r.serving) s.homes s.views r.phase facts.2 r.stored, w, ap (get_elem? (set s.views id w)) same_owner ∙ set_here s.views id w (inside s.views id me.0 at), (t, refl));
          each_seat = seats_stay (SeatFits place callers (r.log ++ e ∷ []) r.ticket r.serving 2 r.owner r.holder) s.views id w
              record {
                unseen = [];
                seen_begins = append-nil (me.0.seen ++ e ∷ []) ∙ ap (λ l. l ++ e ∷ []) whole;
                untold = f.untold ++ e ∷ [];
                told_begins = sym (append_assoc me.0.told f.untold (e ∷ [])) ∙ ap (λ l. l ++ e ∷ []) f.told_begins;
                range = f.range;
                held = λ i a b. ((f.held i a b).0, (λ _. tt), (λ l. absurd (omega arith)));
                few_calls = f.few_calls;
                staged = (hit, drawn, refl, refl);
                owned = λ k h. (ap r.owner (sym h) ∙ o.0, o.1, o.2, o.3);
                placed = f.placed;
              }
              (λ j d other there. let g = r.each_seat j d there in others_fit place callers r.log (r.log ++ e ∷ []) (e ∷ []) r.ticket r.ticket r.serving r.serving r.phase 2 r.owner r.owner r.holder j d g
              (le_refl r.ticket) refl
              (λ i theirs. ((λ (mine : me.0.low ≡ i). other (sym theirs ∙ (ap r.holder (sym mine) ∙ (f.held me.0.low (le_refl me.0.low) (omega arith)).0))), tt))
              (λ k h. ((ticket_range g.unseen r.serving r.phase r.ticket k d.stage g.staged h).0, refl)) (λ k h. absurd (no_turn j d k other there h)));
          each_ticket = λ k a b. stays_at (λ (u : V). HasTicket k u.stage) s.views id me.0 w at (r.owner k) (λ q. subst (HasTicket k) has q) (r.each_ticket k a b);
          each_caller = λ i l. stays_at (λ (u : V). (u.low ≤ i) × (i < u.high)) s.views id me.0 w at (r.holder i) (λ q. q) (r.each_caller i l);
          all_calls = (let z = total_set calls_of s.views id me.0 w at in let d = r.all_calls in omega arith);
          all_callers = (let z = total_set callers_of s.views id me.0 w at in let d = r.all_callers in omega arith);
        },
        λ k call' answer' has' note'.
            let same : t ≡ k = ap (ticket_or t) (sym has ∙ has') in
            let slots_same : (0, Pending call answer) ∷ [] ≡ (0, Pending call' answer') ∷ [] = sym note ∙ note' in
            (refl, (λ i. let u : V = record me.0 { stage = Recorded (same i); seen = me.0.seen ++ entry me.0.low (call_or call (first_or Taken (slots_same i))).value (answer_or answer (first_or Taken (slots_same i))).value ∷ [] } in u)),
      )

  -- the call ends: the slot goes home with a value that stands for the whole history
  pub advance_keeps : (slots id : ℕ) (me : M) (t : ℕ) (x : T) → HasTurn t me.0.stage → me.1 ≡ (0, Value x) ∷ [] → stands x me.0.seen → place_of x ≡ me.0.place
      → Allows Rule slots id me 1 (λ n. (n + 1) % 2 ^ 64) (Advances (step slots 1 1 0 none) me)
  advance_keeps slots id me t x turned hand right placed s r _ at _ =
      let f = r.each_seat id me.0 at in
      let w : V = record me.0 { stage = Idle } in
      let facts = turn_facts f.unseen r.serving r.phase r.ticket t me.0.stage f.staged turned in
      let o = f.owned t facts.4 in
      let hit : t ≡ r.serving = facts.0 in
      let drawn : t < r.ticket = facts.1 in
      let whole : me.0.seen ≡ r.log = sym (append-nil me.0.seen) ∙ (ap (λ l. me.0.seen ++ l) (sym facts.3) ∙ f.seen_begins) in
      let small = ticket_small s r in
      let begun = r.few_entries in
      let two = r.order.1 in
      let up : (r.serving + 1) % 2 ^ 64 ≡ r.serving + 1 = mod-eq_of_lt (omega arith) in
      let apart : (j : ℕ) (d : V) (k : ℕ) → j ≢ id → get_elem? s.views j ≡ some d → HasTicket k d.stage → k ≢ r.serving = (λ j d k other there h e. let g = r.each_seat j d there in
      let theirs = g.owned k h in other (sym theirs.0 ∙ (ap r.owner (e ∙ sym hit) ∙ o.0))) in
      let back : homes_after s.homes me.1 gives ≡ some (Value x) ∷ [] = (λ i. put_back (stored_away place_of legal stands place r.log (r.owner r.serving) s.homes s.views r.phase facts.2 r.stored i) (hand i)) in
      subst (Goal s id me 1 (λ n. (n + 1) % 2 ^ 64) (Advances (step slots 1 1 0 none) me)) (sym r.words) (
        w,
        gives,
        tt,
        record {
          log = r.log;
          ticket = r.ticket;
          serving = r.serving + 1;
          phase = 0;
          owner = r.owner;
          holder = r.holder;
          words = ap (λ (n : ℕ). r.ticket ∷ n ∷ length r.log ∷ []) up;
          order = (omega arith, omega arith, r.order.2);
          few_entries = omega arith;
          is_legal = r.is_legal;
          known_callers = r.known_callers;
          stored = (x, back, subst (stands x) whole right, placed ∙ (f.placed o.2).0);
          each_seat = seats_stay (SeatFits place callers r.log r.ticket (r.serving + 1) 0 r.owner r.holder) s.views id w
              record {
                unseen = f.unseen;
                seen_begins = f.seen_begins;
                untold = f.untold;
                told_begins = f.told_begins;
                range = f.range;
                held = f.held;
                few_calls = f.few_calls;
                staged = tt;
                owned = λ k h. absurd h;
                placed = f.placed;
              }
              (λ j d other there. let g = r.each_seat j d there in others_fit place callers r.log r.log [] r.ticket r.ticket r.serving (r.serving + 1) r.phase 0 r.owner r.owner r.holder j d g
              (le_refl r.ticket) (append-nil r.log) (λ _ _. tt)
              (λ k h. let l = (ticket_range g.unseen r.serving r.phase r.ticket k d.stage g.staged h).0 in let ne = apart j d k other there h in (omega arith, refl))
              (λ k h. let q = turn_facts g.unseen r.serving r.phase r.ticket k d.stage g.staged h in absurd (apart j d k other there q.4 q.0)));
          each_ticket = λ k a b. stays_at (λ (u : V). HasTicket k u.stage) s.views id me.0 w at (r.owner k)
              (λ q. absurd (let e : t ≡ k = same_ticket t k me.0.stage turned q in omega arith)) (r.each_ticket k (omega arith) b);
          each_caller = λ i l. stays_at (λ (u : V). (u.low ≤ i) × (i < u.high)) s.views id me.0 w at (r.holder i) (λ q. q) (r.each_caller i l);
          all_calls = (let z = total_set calls_of s.views id me.0 w at in let d = r.all_calls in omega arith);
          all_callers = (let z = total_set callers_of s.views id me.0 w at in let d = r.all_callers in omega arith);
        },
        (ap rest hand, refl),
      )
