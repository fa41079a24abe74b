-- Splitting, joining and merging seats keeps the rule.
use Rattle.std.proofs.Common.{◌≡◌, ◌≢◌, ◌⊎◌, inl, inr, ⊎_elim, ℕ, ◌+◌, ◌-◌, ◌<◌, ◌≤◌, false, true≢false, List, [], ◌∷◌, ◌++◌, length, get_or, set, sym, refl, ap, ◌∙◌, subst, arith, length-set, le_refl}
use Rattle.std.proofs.lemmas.List.{append-nil}
use mathlib.Core.Logic.{dite}
use mathlib.Core.Option.{none, some}
use native.Mathlib.Decide.{ℕ_discrete}
use lib.ListN.{get_elem?}
use Rattle.atomic_table.specs.Table.{State, Me, step, keeps, Allows, Splits, Joins}
use Rattle.atomic_table.proofs.Lists.{set_here, set_else, at_last}
use Rattle.ch_base.specs.declared.entry.Entry.{Entry}
use Rattle.ch_base.specs.Growth.{NotBy}
use Rattle.ch_turn.specs.declared.table.View.{View}
use Rattle.ch_turn.specs.declared.table.Stage.TheVariants.{Idle}
use Rattle.ch_turn.specs.declared.table.Slot.{Slot}
use Rattle.ch_turn.specs.Callers.{CallersBelow}
use Rattle.ch_turn.specs.Tickets.{HasTicket, HasTurn}
use Rattle.ch_turn.specs.Views.{after_dealing, dealt_view, telling_view, joint_view, spent_view, calls_of, callers_of}
use Rattle.ch_turn.specs.LockRule.{SeatFits, Kept}
use Rattle.ch_turn.specs.StepEffects.{Merges}
use Rattle.ch_turn.proofs.Numbering.{put, put_here, put_else}
use Rattle.ch_turn.proofs.Entries.{not_by-left, not_by-right, two_fronts, below-left}
use Rattle.ch_turn.proofs.ViewLists.{inside, stays_at, seats_stay, still, snoc_at, total_set, total-push}
use Rattle.ch_turn.proofs.RuleParts.{no_ticket, no_turn, idle_fits, rehold, stored_stays}

module _ {T C A : Type 0} (place_of : T → ℕ × ℕ) (legal : ℕ × ℕ → List (Entry C A) → Type 0) (stands : T → List (Entry C A) → Type 0) (place : ℕ × ℕ) (callers : ℕ) where
  abbrev E : Type 0
  E = Entry C A

  abbrev V : Type 0
  V = View C A

  abbrev St : Type 0
  St = State (Slot T C A) V

  abbrev M : Type 0
  M = Me (Slot T C A) V

  abbrev Rule : St → Type 0
  Rule = Kept place_of legal stands place callers

  -- a seat is cut in two
  split_keeps : (s : St) (r : Rule s) (id : ℕ) (v left right : V) (holder' : ℕ → ℕ) → get_elem? s.views id ≡ some v
      → left.stage ≡ v.stage → right.stage ≡ Idle
      → SeatFits place callers r.log r.ticket r.serving r.phase r.owner holder' id left
      → SeatFits place callers r.log r.ticket r.serving r.phase r.owner holder' (length s.views) right
      → ((j : ℕ) (d : V) (i : ℕ) → j ≢ id → get_elem? s.views j ≡ some d → d.low ≤ i → i < d.high → r.holder i ≡ j → holder' i ≡ j)
      → ((i : ℕ) → i < callers → (u : V) × (get_elem? (set s.views id left ++ right ∷ []) (holder' i) ≡ some u) × ((u.low ≤ i) × (i < u.high)))
      → left.calls + right.calls ≡ v.calls → callers_of left + callers_of right ≡ callers_of v
      → Rule record { words = s.words; homes = s.homes; views = set s.views id left ++ right ∷ [] }
  split_keeps s r id v left right holder' at same_turn idle mine new others each mades widths = let vs : List V = set s.views id left in record {
    log = r.log;
    ticket = r.ticket;
    serving = r.serving;
    phase = r.phase;
    owner = r.owner;
    holder = holder';
    words = r.words;
    order = r.order;
    few_entries = r.few_entries;
    is_legal = r.is_legal;
    known_callers = r.known_callers;
    stored = stored_stays place_of legal stands place r.log (r.owner r.serving) (r.owner r.serving) s.homes s.views (vs ++ right ∷ []) r.phase
        (λ _ h. still (λ (u : V). (t : ℕ) × HasTurn t u.stage) vs right (r.owner r.serving)
        (stays_at (λ (u : V). (t : ℕ) × HasTurn t u.stage) s.views id v left at (r.owner r.serving) (λ q. (q.0, subst (HasTurn q.0) (sym same_turn) q.1)) h)) r.stored;
    each_seat = λ j d e. ⊎_elim
        (λ (was : get_elem? vs j ≡ some d). seats_stay (SeatFits place callers r.log r.ticket r.serving r.phase r.owner holder') s.views id left mine
        (λ k x apart there. rehold place callers r.log r.ticket r.serving r.phase r.owner r.holder holder' k x (λ i a b. others k x i apart there a b) (r.each_seat k x there)) j d was)
        (λ (last : (j ≡ length vs) × (right ≡ d)). subst (λ (z : ℕ × V). SeatFits place callers r.log r.ticket r.serving r.phase r.owner holder' z.0 z.1)
        (λ i. ((sym (length-set s.views id left) ∙ sym last.0) i, last.1 i)) new)
        (snoc_at vs right d j e);
    each_ticket = λ t a b. still (λ (u : V). HasTicket t u.stage) vs right (r.owner t) (stays_at (λ (u : V). HasTicket t u.stage) s.views id v left at (r.owner t) (λ q. subst (HasTicket t) (sym same_turn) q) (r.each_ticket t a b));
    each_caller = each;
    all_calls = (let z = total_set calls_of s.views id v left at in let y = total-push calls_of vs right in let d = r.all_calls in omega arith);
    all_callers = (let z = total_set callers_of s.views id v left at in let y = total-push callers_of vs right in let d = r.all_callers in omega arith);
  }

  -- the lowest caller number of an idle seat goes to a new seat
  pub deal_keeps : (id : ℕ) (v : V) → v.stage ≡ Idle → v.told_from ≡ v.high → v.low < v.high → v.calls ≡ 0 → Splits Rule id v (after_dealing v) (dealt_view v)
  deal_keeps id v idle merged some_left fresh s r at =
      let f = r.each_seat id v at in
      let n : ℕ = length s.views in
      let holder' : ℕ → ℕ = put r.holder v.low n in
      let apart : (i : ℕ) → i ≢ v.low → holder' i ≡ r.holder i = λ i ne. put_else r.holder v.low n i ne in
      let top = f.range.2 in
      split_keeps s r id v (after_dealing v) (dealt_view v) holder' at refl refl
      record {
        unseen = f.unseen;
        seen_begins = f.seen_begins;
        untold = f.untold;
        told_begins = f.told_begins;
        range = (omega arith, omega arith, omega arith);
        held = λ i a b. let h = f.held i (omega arith) b in (apart i (λ e. omega arith) ∙ h.0, h.1, h.2);
        few_calls = omega arith;
        staged = f.staged;
        owned = λ t h. absurd (no_ticket v.stage idle t h);
        placed = f.placed;
      }
      record {
        unseen = f.unseen;
        seen_begins = f.seen_begins;
        untold = r.log;
        told_begins = refl;
        range = (omega arith, omega arith, omega arith);
        held = λ i a b. let h = f.held i a (omega arith) in let e : i ≡ v.low = omega arith in (ap holder' e ∙ put_here r.holder v.low n, (λ l. h.1 (omega arith)), (λ l. absurd (omega arith)));
        few_calls = omega arith;
        staged = tt;
        owned = λ t h. absurd h;
        placed = f.placed;
      }
      (λ j d i ne there a b theirs. apart i (λ e. ne (sym theirs ∙ (ap r.holder e ∙ (f.held v.low (le_refl v.low) some_left).0))) ∙ theirs)
      (λ i l. dite (ℕ_discrete i v.low)
      (λ e. (dealt_view v, ap (get_elem? (set s.views id (after_dealing v) ++ dealt_view v ∷ [])) (ap holder' e ∙ put_here r.holder v.low n) ∙ at_last (set s.views id (after_dealing v)) (dealt_view v) n (length-set s.views id (after_dealing v)), (omega arith, omega arith)))
      (λ ne. let z = still (λ (u : V). (u.low ≤ i) × (i < u.high)) (set s.views id (after_dealing v)) (dealt_view v) (r.holder i)
      (stays_at (λ (u : V). (u.low ≤ i) × (i < u.high)) s.views id v (after_dealing v) at (r.holder i) (λ q. let b = q.0 in (omega arith, q.1)) (r.each_caller i l)) in
      (z.0, ap (get_elem? (set s.views id (after_dealing v) ++ dealt_view v ∷ [])) (apart i ne) ∙ z.1, z.2)))
      (omega arith) (omega arith)

  -- a new seat is told what the seat has seen
  pub tell_keeps : (id : ℕ) (v : V) → Splits Rule id v v (telling_view v)
  tell_keeps id v s r at =
      let f = r.each_seat id v at in
      split_keeps s r id v v (telling_view v) r.holder at refl refl f
      record {
        unseen = f.unseen;
        seen_begins = f.seen_begins;
        untold = r.log;
        told_begins = refl;
        range = (omega arith, omega arith, omega arith);
        held = λ i a b. absurd (omega arith);
        few_calls = omega arith;
        staged = tt;
        owned = λ t h. absurd h;
        placed = f.placed;
      }
      (λ j d i ne there a b theirs. theirs)
      (λ i l. still (λ (u : V). (u.low ≤ i) × (i < u.high)) (set s.views id v) (telling_view v) (r.holder i)
      (stays_at (λ (u : V). (u.low ≤ i) × (i < u.high)) s.views id v v at (r.holder i) (λ q. q) (r.each_caller i l)))
      (omega arith) (omega arith)

  -- a seat takes in another's list, and its caller numbers
  take_over_keeps : (s : St) (r : Rule s) (id : ℕ) (v : V) (other : ℕ) (w : V) (holder' : ℕ → ℕ) → get_elem? s.views id ≡ some v → other ≢ id → get_elem? (set s.views id (joint_view v w)) other ≡ some w
      → v.stage ≡ Idle → w.stage ≡ Idle → v.told_from ≡ v.high → w.told_from ≡ w.high → v.high + (w.high - w.low) ≤ callers
      → ((i : ℕ) → w.low ≤ i → i < w.high → (holder' i ≡ id) × (v.high ≤ i) × (i < v.high + (w.high - w.low)))
      → ((i : ℕ) → v.high ≤ i → i < v.high + (w.high - w.low) → (w.low ≤ i) × (i < w.high))
      → ((i : ℕ) → ((w.low ≤ i) → (i < w.high) → ⊥) → holder' i ≡ r.holder i)
      → ((i : ℕ) → ((w.low ≤ i) × (i < w.high)) ⊎ ((w.low ≤ i) → (i < w.high) → ⊥))
      → Rule record { words = s.words; homes = s.homes; views = set (set s.views id (joint_view v w)) other spent_view }
  take_over_keeps s r id v other w holder' at apart there idle rests now_merged was_merged top inner taken outer decide =
      let both : V = joint_view v w in
      let vs : List V = set s.views id both in
      let at_other : get_elem? s.views other ≡ some w = sym (set_else s.views id other both apart) ∙ there in
      let f = r.each_seat id v at in
      let g = r.each_seat other w at_other in
      let low = f.range.0 in
      let wlow = g.range.0 in
      let keep : (Q : V → Type 0) → (Q v → Q both) → (Q w → Q spent_view) → (k : ℕ) → (u : V) × (get_elem? s.views k ≡ some u) × Q u → (u : V) × (get_elem? (set vs other spent_view) k ≡ some u) × Q u
      = (λ Q here away k h. stays_at Q vs other w spent_view there k away (stays_at Q s.views id v both at k here h)) in
      record {
        log = r.log;
        ticket = r.ticket;
        serving = r.serving;
        phase = r.phase;
        owner = r.owner;
        holder = holder';
        words = r.words;
        order = r.order;
        few_entries = r.few_entries;
        is_legal = r.is_legal;
        known_callers = r.known_callers;
        stored = stored_stays place_of legal stands place r.log (r.owner r.serving) (r.owner r.serving) s.homes s.views (set vs other spent_view) r.phase
            (λ _ h. keep (λ (u : V). (t : ℕ) × HasTurn t u.stage) (λ q. absurd (no_turn v.stage idle q.0 q.1)) (λ q. absurd (no_turn w.stage rests q.0 q.1)) (r.owner r.serving) h) r.stored;
        each_seat = seats_stay (SeatFits place callers r.log r.ticket r.serving r.phase r.owner holder') vs other spent_view
            record {
              unseen = r.log;
              seen_begins = refl;
              untold = r.log;
              told_begins = refl;
              range = (omega arith, omega arith, omega arith);
              held = λ i a b. absurd (omega arith);
              few_calls = omega arith;
              staged = tt;
              owned = λ t h. absurd h;
              placed = λ e. absurd (true≢false e);
            }
            (λ j d not_other e. seats_stay (λ (k : ℕ) (x : V). k ≢ other → SeatFits place callers r.log r.ticket r.serving r.phase r.owner holder' k x) s.views id both
            (λ _. record {
              unseen = f.unseen;
              seen_begins = f.seen_begins;
              untold = g.unseen;
              told_begins = g.seen_begins;
              range = (low, omega arith, top);
              held = λ i a b. dite (native.Mathlib.Decide.dec_lt i v.high)
                  (λ l. (outer i (λ x y. let z = (inner i x y).1 in absurd (omega arith)) ∙ (f.held i a l).0, (λ m. (f.held i a l).1 m), (λ m. absurd (omega arith))))
                  (λ not. let h = taken i (omega arith) b in ((inner i h.0 h.1).0, (λ m. absurd (omega arith)), (λ m. let x = h.1 in (g.held i h.0 h.1).1 (omega arith))));
              few_calls = (let x = f.few_calls in let y = g.few_calls in omega arith);
              staged = f.staged;
              owned = λ t h. absurd (no_ticket v.stage idle t h);
              placed = f.placed;
            })
            (λ k x not_id there' not_other'. let q = r.each_seat k x there' in rehold place callers r.log r.ticket r.serving r.phase r.owner r.holder holder' k x
            (λ i a b theirs. outer i (λ y z. not_other' (sym theirs ∙ (g.held i y z).0)) ∙ theirs) q)
            j d e not_other);
        each_ticket = λ t a b. keep (λ (u : V). HasTicket t u.stage) (λ q. absurd (no_ticket v.stage idle t q)) (λ q. absurd (no_ticket w.stage rests t q)) (r.owner t) (r.each_ticket t a b);
        each_caller = λ i l. ⊎_elim
            (λ (h : (w.low ≤ i) × (i < w.high)). let z = inner i h.0 h.1 in let x = z.1 in let x' = z.2 in
            (both, ap (get_elem? (set vs other spent_view)) z.0 ∙ (set_else vs other id spent_view (λ e. apart (sym e)) ∙ set_here s.views id both (inside s.views id v at)), (omega arith, omega arith)))
            (λ (h : (w.low ≤ i) → (i < w.high) → ⊥). let z = keep (λ (u : V). (u.low ≤ i) × (i < u.high)) (λ q. let b = q.1 in (q.0, omega arith)) (λ q. absurd (h q.0 q.1)) (r.holder i) (r.each_caller i l) in
            (z.0, ap (get_elem? (set vs other spent_view)) (outer i h) ∙ z.1, z.2))
            (decide i);
        all_calls = (let z = total_set calls_of s.views id v both at in let y = total_set calls_of vs other w spent_view there in let d = r.all_calls in omega arith);
        all_callers = (let z = total_set callers_of s.views id v both at in let y = total_set callers_of vs other w spent_view there in let d = r.all_callers in omega arith);
      }

  -- the other is a seat that tells alone: it has no caller number
  pub take_told_keeps : (id : ℕ) (v : V) (other : ℕ) (w : V) → v.stage ≡ Idle → w.stage ≡ Idle → v.told_from ≡ v.high → w.told_from ≡ w.high → w.low ≡ w.high → Joins Rule id v other w (joint_view v w) spent_view
  take_told_keeps id v other w idle rests merged merged' none_there s r at apart there = let top = (r.each_seat id v at).range.2 in
      take_over_keeps s r id v other w r.holder at apart there idle rests merged merged' (omega arith) (λ i a b. absurd (omega arith)) (λ i a b. absurd (omega arith)) (λ i h. refl)
      (λ i. inr (λ a b. absurd (omega arith)))

  -- the other has the next caller number
  pub take_pass_keeps : (id : ℕ) (v : V) (other : ℕ) (w : V) → v.stage ≡ Idle → w.stage ≡ Idle → v.told_from ≡ v.high → w.told_from ≡ w.high → w.high ≡ w.low + 1 → w.low ≡ v.high → Joins Rule id v other w (joint_view v w) spent_view
  take_pass_keeps id v other w idle rests merged merged' one next s r at apart there =
      let at_other : get_elem? s.views other ≡ some w = sym (set_else s.views id other (joint_view v w) apart) ∙ there in
      let top = (r.each_seat other w at_other).range.2 in
      take_over_keeps s r id v other w (put r.holder w.low id) at apart there idle rests merged merged' (omega arith)
      (λ i a b. let e : i ≡ w.low = omega arith in (ap (put r.holder w.low id) e ∙ put_here r.holder w.low id, omega arith, omega arith))
      (λ i a b. (omega arith, omega arith))
      (λ i h. put_else r.holder w.low id i (λ e. h (omega arith) (omega arith)))
      (λ i. dite (ℕ_discrete i w.low) (λ e. inl (omega arith, omega arith)) (λ ne. inr (λ a b. absurd (ne (omega arith)))))

  -- what was told and the list become one
  pub merge_keeps : ((p : ℕ × ℕ) (log more : List E) → legal p (log ++ more) → legal p log) → (slots id : ℕ) (me : M) (word : ℕ) → me.0.stage ≡ Idle → me.0.spent ≡ false
      → Allows Rule slots id me word (λ n. n) (Merges place_of legal stands (step slots word 0 0 none) me)
  merge_keeps prefix slots id me word idle live s r _ at _ =
      let v : V = me.0 in
      let f = r.each_seat id v at in
      let here : place ≡ v.place = sym (f.placed live).0 in
      let many : callers ≡ v.callers = sym (f.placed live).1 in
      let low = f.range.0 in
      let next : (list rest : List E) → list ++ rest ≡ r.log → ((i : ℕ) → v.low ≤ i → i < v.high → NotBy i rest)
      → Rule record { words = set s.words word (get_or s.words word 0); homes = s.homes; views = set s.views id (record v { seen = list; told = []; told_from = v.high }) }
      = (λ list rest begins others. let w : V = record v { seen = list; told = []; told_from = v.high } in
      subst (λ (ws : List ℕ). Rule record { words = ws; homes = s.homes; views = set s.views id w }) (sym (lib.Seq.set-get_or s.words word 0)) record {
        log = r.log;
        ticket = r.ticket;
        serving = r.serving;
        phase = r.phase;
        owner = r.owner;
        holder = r.holder;
        words = r.words;
        order = r.order;
        few_entries = r.few_entries;
        is_legal = r.is_legal;
        known_callers = r.known_callers;
        stored = stored_stays place_of legal stands place r.log (r.owner r.serving) (r.owner r.serving) s.homes s.views (set s.views id w) r.phase
            (λ _ h. stays_at (λ (u : V). (t : ℕ) × HasTurn t u.stage) s.views id v w at (r.owner r.serving) (λ q. q) h) r.stored;
        each_seat = seats_stay (SeatFits place callers r.log r.ticket r.serving r.phase r.owner r.holder) s.views id w
            record {
              unseen = rest;
              seen_begins = begins;
              untold = r.log;
              told_begins = refl;
              range = (let a = f.range.1 in omega arith, omega arith, f.range.2);
              held = λ i a b. ((f.held i a b).0, (λ _. others i a b), (λ m. absurd (omega arith)));
              few_calls = f.few_calls;
              staged = idle_fits rest r.serving r.phase r.ticket v.stage idle;
              owned = λ t h. absurd (no_ticket v.stage idle t h);
              placed = f.placed;
            }
            (λ j d _ e. r.each_seat j d e);
        each_ticket = λ t a b. stays_at (λ (u : V). HasTicket t u.stage) s.views id v w at (r.owner t) (λ q. q) (r.each_ticket t a b);
        each_caller = λ i l. stays_at (λ (u : V). (u.low ≤ i) × (i < u.high)) s.views id v w at (r.holder i) (λ q. q) (r.each_caller i l);
        all_calls = (let z = total_set calls_of s.views id v w at in let d = r.all_calls in omega arith);
        all_callers = (let z = total_set callers_of s.views id v w at in let d = r.all_callers in omega arith);
      }) in
      ⊎_elim
      (λ (h : (more : List E) × (v.seen ++ more ≡ v.told) × (f.unseen ≡ more ++ f.untold)). (
        record v { seen = v.told; told = []; told_from = v.high },
        keeps,
        tt,
        next v.told f.untold f.told_begins (λ i a b. dite (native.Mathlib.Decide.dec_lt i v.told_from)
            (λ l. not_by-right i h.0 f.untold (subst (NotBy i) h.2 ((f.held i a b).1 l))) (λ not. (f.held i a b).2 (omega arith))),
        record {
          hand = refl;
          view = refl;
          longer = inr refl;
          lawful = subst (λ (p : ℕ × ℕ). legal p v.told) here (prefix place v.told f.untold (subst (legal place) (sym f.told_begins) r.is_legal));
          known = subst (λ (n : ℕ). CallersBelow n v.told) many (below-left callers v.told f.untold (subst (CallersBelow callers) (sym f.told_begins) r.known_callers));
          after_seen = (h.0, h.1, (λ i a b. let q = f.range.1 in not_by-left i h.0 f.untold (subst (NotBy i) h.2 ((f.held i a (omega arith)).1 b))));
          after_told = ([], append-nil v.told, (λ i a b. tt));
        },
      ))
      (λ (h : (more : List E) × (v.told ++ more ≡ v.seen) × (f.untold ≡ more ++ f.unseen)). (
        record v { told = []; told_from = v.high },
        keeps,
        tt,
        next v.seen f.unseen f.seen_begins (λ i a b. dite (native.Mathlib.Decide.dec_lt i v.told_from)
            (λ l. (f.held i a b).1 l) (λ not. not_by-right i h.0 f.unseen (subst (NotBy i) h.2 ((f.held i a b).2 (omega arith))))),
        record {
          hand = refl;
          view = refl;
          longer = inl refl;
          lawful = subst (λ (p : ℕ × ℕ). legal p v.seen) here (prefix place v.seen f.unseen (subst (legal place) (sym f.seen_begins) r.is_legal));
          known = subst (λ (n : ℕ). CallersBelow n v.seen) many (below-left callers v.seen f.unseen (subst (CallersBelow callers) (sym f.seen_begins) r.known_callers));
          after_seen = ([], append-nil v.seen, (λ i a b. tt));
          after_told = (h.0, h.1, (λ i a b. not_by-left i h.0 f.unseen (subst (NotBy i) h.2 ((f.held i (omega arith) b).2 a))));
        },
      ))
      (two_fronts v.seen v.told f.unseen f.untold r.log f.seen_begins f.told_begins)
