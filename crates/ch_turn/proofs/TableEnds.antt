-- The table as it is made, and as it is closed.
use Rattle.std.proofs.Common.{◌≡◌, ℕ, zero, suc, ◌+◌, ◌<◌, ◌≤◌, List, [], ◌∷◌, ◌++◌, length, sym, refl, ap, ◌∙◌, subst, arith}
use Rattle.std.proofs.lemmas.List.Elements.{All-nil}
use mathlib.Core.Option.{Option, some, some-injective, some-ne-none}
use lib.ListN.{get_elem?}
use Rattle.atomic_table.specs.Table.{State, Final, Seen, opening}
use Rattle.ch_base.specs.declared.entry.Entry.{Entry}
use Rattle.ch_base.specs.Growth.{NotBy}
use Rattle.ch_base.specs.declared.limits.TheConstants.{MAX_CALLERS}
use Rattle.ch_turn.specs.declared.table.View.{View}
use Rattle.ch_turn.specs.declared.table.Stage.TheVariants.{Idle}
use Rattle.ch_turn.specs.declared.table.Slot.{Slot}
use Rattle.ch_turn.specs.declared.table.Slot.TheVariants.{Value}
use Rattle.ch_turn.specs.Callers.{CallersBelow}
use Rattle.ch_turn.specs.Tickets.{HasTurn}
use Rattle.ch_turn.specs.Views.{first_view}
use Rattle.ch_turn.specs.LockRule.{SeatFits, Stored, Kept}
use Rattle.ch_turn.specs.SeatStates.{Gathered}
use Rattle.ch_turn.proofs.RuleParts.{turn_facts}

module _ {T C A : Type 0} (place_of : T → ℕ × ℕ) (legal : ℕ × ℕ → List (Entry C A) → Type 0) (stands : T → List (Entry C A) → Type 0) where
  -- a new table, with a value at home that stands for the empty history
  pub opening_keeps : (callers : ℕ) (value : T) → callers ≤ MAX_CALLERS → legal (place_of value) [] → stands value []
      → Kept place_of legal stands (place_of value) callers (opening (0 ∷ 0 ∷ 0 ∷ []) (Value value ∷ []) (first_view (place_of value) callers))
  opening_keeps callers value few lawful right = record {
    log = [];
    ticket = 0;
    serving = 0;
    phase = 0;
    owner = λ _. 0;
    holder = λ _. 0;
    words = refl;
    order = (omega arith, omega arith, few);
    few_entries = omega arith;
    is_legal = lawful;
    known_callers = All-nil (λ e. e.caller < callers);
    stored = (value, refl, right, refl);
    each_seat = one;
    each_ticket = λ t a b. absurd (omega arith);
    each_caller = λ i l. (first_view (place_of value) callers, refl, (omega arith, l));
    all_calls = refl;
    all_callers = omega arith;
  }
    where
      one : (j : ℕ) (v : View C A) → get_elem? (first_view (place_of value) callers ∷ []) j ≡ some v → SeatFits (place_of value) callers [] 0 0 0 (λ _. 0) (λ _. 0) j v
      one zero v e = subst (SeatFits (place_of value) callers [] 0 0 0 (λ _. 0) (λ _. 0) 0) (some-injective (first_view (place_of value) callers) v e) record {
        unseen = [];
        seen_begins = refl;
        untold = [];
        told_begins = refl;
        range = (omega arith, omega arith, omega arith);
        held = λ i a b. (refl, (λ _. tt), (λ _. tt));
        few_calls = omega arith;
        staged = tt;
        owned = λ t h. absurd h;
        placed = λ _. (refl, refl);
      }
      one (suc j) v e = absurd (some-ne-none v (sym e))

  module _ (place : ℕ × ℕ) (callers : ℕ) where
    -- a seat that has every caller number has no turn, and so no seat has: the value is at home
    home : (s : State (Slot T C A) (View C A)) (r : Kept place_of legal stands place callers s) (id : ℕ) (v : View C A) → get_elem? s.views id ≡ some v
        → v.stage ≡ Idle → v.low ≡ 0 → v.high ≡ callers
        → (p : ℕ) → Stored place_of legal stands place r.log (r.owner r.serving) s.homes s.views p
        → (x : T) × (s.homes ≡ some (Value x) ∷ []) × stands x r.log × (place_of x ≡ place)
    home s r id v at idle low high zero st = st
    home s r id v at idle low high (suc p) st =
        let seat : ℕ = r.owner r.serving in
        let u : View C A = st.1 in
        let t : ℕ = st.3.0 in
        let g = r.each_seat seat u st.2 in
        let f = r.each_seat id v at in
        let facts = turn_facts g.unseen r.serving r.phase r.ticket t u.stage g.staged st.3.1 in
        let o = g.owned t facts.4 in
        let one : u.high ≡ u.low + 1 = o.1 in
        let top = g.range.2 in
        let theirs : r.holder u.low ≡ seat = (g.held u.low (omega arith) (omega arith)).0 in
        let mine : r.holder u.low ≡ id = (f.held u.low (omega arith) (omega arith)).0 in
        let same : u ≡ v = some-injective u v (sym st.2 ∙ (ap (get_elem? s.views) (sym theirs ∙ mine) ∙ at)) in
        absurd (subst (HasTurn t) (ap (λ (w : View C A). w.stage) same ∙ idle) st.3.1)

    -- the table at the end, where one seat has every caller number: a value is at home, and stands for a history that begins with all that the seat has seen
    pub record Ended (seen : List (Entry C A)) (words : List ℕ) (slots : List (Slot T C A)) : Type 0 where
      pub value : T
      pub log : List (Entry C A)
      pub unseen : List (Entry C A)
      pub stored : get_elem? slots 0 ≡ some (Value value)
      pub counted : get_elem? words 2 ≡ some (length log)
      pub seen_begins : seen ++ unseen ≡ log
      pub others : (i : ℕ) → i < callers → NotBy i unseen
      pub right : stands value log
      pub placed : place_of value ≡ place
      pub lawful : legal place log
      pub known_callers : CallersBelow callers log

    pub closing_ends : (id : ℕ) (v : View C A) (ws : List ℕ) (xs : List (Slot T C A)) → Gathered v callers → Final (Seen (Kept place_of legal stands place callers) id v) ws xs → Ended v.seen ws xs
    closing_ends id v ws xs gathered final =
        let s = final.0 in
        let r = final.1.0 in
        let at = final.1.1 in
        let f = r.each_seat id v at in
        let low = gathered.from_first in
        let high = gathered.up_to in
        let merged = gathered.merged in
        let h = home s r id v at gathered.idle low high r.phase r.stored in record {
          value = h.0;
          log = r.log;
          unseen = f.unseen;
          stored = final.4 0 (Value h.0) (ap (λ (l : List (Option (Slot T C A))). get_elem? l 0) h.1);
          counted = ap (λ (l : List ℕ). get_elem? l 2) (sym final.2 ∙ r.words);
          seen_begins = f.seen_begins;
          others = λ i l. (f.held i (omega arith) (omega arith)).1 (omega arith);
          right = h.2;
          placed = h.3;
          lawful = r.is_legal;
          known_callers = r.known_callers;
        }
