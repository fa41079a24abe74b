-- The parts of the rule that stay as they are, where a seat steps.
use Rattle.std.proofs.Common.{◌≡◌, ℕ, zero, suc, ◌<◌, ◌≤◌, List, [], ◌∷◌, ◌++◌, sym, refl, ap, ◌∙◌, subst, arith, append_assoc}
use Rattle.std.proofs.lemmas.List.{append-nil}
use mathlib.Core.Option.{Option, none, some}
use lib.ListN.{get_elem?}
use Rattle.ch_base.specs.declared.entry.Entry.{Entry}
use Rattle.ch_base.specs.Growth.{NotBy}
use Rattle.ch_turn.specs.declared.table.View.{View}
use Rattle.ch_turn.specs.declared.table.Stage.{Stage}
use Rattle.ch_turn.specs.declared.table.Stage.TheVariants.{Idle, Waits, Holds, Recorded}
use Rattle.ch_turn.specs.declared.table.Slot.{Slot}
use Rattle.ch_turn.specs.Tickets.{HasTicket, HasTurn}
use Rattle.ch_turn.specs.LockRule.{StageFits, SeatFits, Stored}
use Rattle.ch_turn.proofs.Entries.{not_by-append}

pub no_ticket : (turn : Stage) → turn ≡ Idle → (t : ℕ) → HasTicket t turn → ⊥
no_ticket turn idle t h = subst (HasTicket t) idle h

pub no_turn : (turn : Stage) → turn ≡ Idle → (t : ℕ) → HasTurn t turn → ⊥
no_turn turn idle t h = subst (HasTurn t) idle h

pub same_ticket : (t k : ℕ) (turn : Stage) → HasTurn t turn → HasTicket k turn → t ≡ k
same_ticket t k Idle h q = absurd h
same_ticket t k (Waits n) h q = absurd h
same_ticket t k (Holds n) h q = sym h ∙ q
same_ticket t k (Recorded n) h q = sym h ∙ q

module _ {C A : Type 0} where
  -- a ticket that a seat has is not served yet
  pub ticket_range : (more : List (Entry C A)) (serving phase ticket t : ℕ) (turn : Stage) → StageFits more serving phase ticket turn → HasTicket t turn → (serving ≤ t) × (t < ticket)
  ticket_range more serving phase ticket t Idle f h = absurd h
  ticket_range more serving phase ticket t (Waits k) f h = let a = f.0 in let b = f.1 in let e : k ≡ t = h in (omega arith, omega arith)
  ticket_range more serving phase ticket t (Holds k) f h = let a = f.0 in let b = f.1 in let e : k ≡ t = h in (omega arith, omega arith)
  ticket_range more serving phase ticket t (Recorded k) f h = let a = f.0 in let b = f.1 in let e : k ≡ t = h in (omega arith, omega arith)

  -- a seat that has its turn has the ticket that is served, and has seen the whole history
  pub turn_facts : (more : List (Entry C A)) (serving phase ticket t : ℕ) (turn : Stage) → StageFits more serving phase ticket turn → HasTurn t turn
      → (t ≡ serving) × (t < ticket) × (0 < phase) × (more ≡ []) × HasTicket t turn
  turn_facts more serving phase ticket t Idle f h = absurd h
  turn_facts more serving phase ticket t (Waits k) f h = absurd h
  turn_facts more serving phase ticket t (Holds k) f h = let a = f.0 in let b = f.1 in let p = f.2 in let e : k ≡ t = h in (omega arith, omega arith, omega arith, f.3, e)
  turn_facts more serving phase ticket t (Recorded k) f h = let a = f.0 in let b = f.1 in let p = f.2 in let e : k ≡ t = h in (omega arith, omega arith, omega arith, f.3, e)

  turn_moves : (rest more : List (Entry C A)) (serving serving' phase phase' ticket ticket' : ℕ) (turn : Stage) → ticket ≤ ticket'
      → ((t : ℕ) → HasTicket t turn → serving' ≤ t) → ((t : ℕ) → HasTurn t turn → (phase' ≡ phase) × (serving' ≡ serving) × (more ≡ []))
      → StageFits rest serving phase ticket turn → StageFits (rest ++ more) serving' phase' ticket' turn
  turn_moves rest more serving serving' phase phase' ticket ticket' Idle up later same f = tt
  turn_moves rest more serving serving' phase phase' ticket ticket' (Waits t) up later same f = let b = f.1 in (later t refl, omega arith)
  turn_moves rest more serving serving' phase phase' ticket ticket' (Holds t) up later same f = let b = f.1 in let z = same t refl in
      (f.0 ∙ sym z.1, omega arith, z.0 ∙ f.2, ap (λ m. rest ++ m) z.2 ∙ (append-nil rest ∙ f.3))
  turn_moves rest more serving serving' phase phase' ticket ticket' (Recorded t) up later same f = let b = f.1 in let z = same t refl in
      (f.0 ∙ sym z.1, omega arith, z.0 ∙ f.2, ap (λ m. rest ++ m) z.2 ∙ (append-nil rest ∙ f.3))

  pub idle_fits : (rest : List (Entry C A)) (serving phase ticket : ℕ) (turn : Stage) → turn ≡ Idle → StageFits rest serving phase ticket turn
  idle_fits rest serving phase ticket turn idle = subst (StageFits rest serving phase ticket) (sym idle) tt

  -- what the rule says of a seat stays, where another seat moves
  pub others_fit : (place : ℕ × ℕ) (callers : ℕ) (log log' more : List (Entry C A)) (ticket ticket' serving serving' phase phase' : ℕ) (owner owner' holder : ℕ → ℕ) (j : ℕ) (v : View C A)
      → SeatFits place callers log ticket serving phase owner holder j v → ticket ≤ ticket' → log ++ more ≡ log' → ((i : ℕ) → holder i ≡ j → NotBy i more)
      → ((t : ℕ) → HasTicket t v.stage → (serving' ≤ t) × (owner' t ≡ owner t)) → ((t : ℕ) → HasTurn t v.stage → (phase' ≡ phase) × (serving' ≡ serving) × (more ≡ []))
      → SeatFits place callers log' ticket' serving' phase' owner' holder j v
  others_fit place callers log log' more ticket ticket' serving serving' phase phase' owner owner' holder j v f up grows apart later same = record {
    unseen = f.unseen ++ more;
    seen_begins = sym (append_assoc v.seen f.unseen more) ∙ (ap (λ l. l ++ more) f.seen_begins ∙ grows);
    untold = f.untold ++ more;
    told_begins = sym (append_assoc v.told f.untold more) ∙ (ap (λ l. l ++ more) f.told_begins ∙ grows);
    range = f.range;
    held = λ i a b. let h = f.held i a b in (h.0, (λ l. not_by-append i f.unseen more (h.1 l) (apart i h.0)), (λ l. not_by-append i f.untold more (h.2 l) (apart i h.0)));
    few_calls = f.few_calls;
    staged = turn_moves f.unseen more serving serving' phase phase' ticket ticket' v.stage up (λ t h. (later t h).0) same f.staged;
    owned = λ t h. let o = f.owned t h in ((later t h).1 ∙ o.0, o.1, o.2, o.3);
    placed = f.placed;
  }

  -- what the rule says of a seat stays, where its callers stay its own
  pub rehold : (place : ℕ × ℕ) (callers : ℕ) (log : List (Entry C A)) (ticket serving phase : ℕ) (owner holder holder' : ℕ → ℕ) (j : ℕ) (v : View C A)
      → ((i : ℕ) → v.low ≤ i → i < v.high → holder i ≡ j → holder' i ≡ j) → SeatFits place callers log ticket serving phase owner holder j v → SeatFits place callers log ticket serving phase owner holder' j v
  rehold place callers log ticket serving phase owner holder holder' j v same f = record {
    unseen = f.unseen;
    seen_begins = f.seen_begins;
    untold = f.untold;
    told_begins = f.told_begins;
    range = f.range;
    held = λ i a b. let h = f.held i a b in (same i a b h.0, h.1, h.2);
    few_calls = f.few_calls;
    staged = f.staged;
    owned = f.owned;
    placed = f.placed;
  }

module _ {T C A : Type 0} (place_of : T → ℕ × ℕ) (legal : ℕ × ℕ → List (Entry C A) → Type 0) (stands : T → List (Entry C A) → Type 0) (place : ℕ × ℕ) where
  -- the value stays at home, or the slot with the seat that has its turn
  pub stored_stays : (log : List (Entry C A)) (at at' : ℕ) (homes : List (Option (Slot T C A))) (views views' : List (View C A)) (p : ℕ)
      → (0 < p → (v : View C A) × (get_elem? views at ≡ some v) × ((t : ℕ) × HasTurn t v.stage) → (v : View C A) × (get_elem? views' at' ≡ some v) × ((t : ℕ) × HasTurn t v.stage))
      → Stored place_of legal stands place log at homes views p → Stored place_of legal stands place log at' homes views' p
  stored_stays log at at' homes views views' zero move st = st
  stored_stays log at at' homes views views' (suc p) move st = let z = move (omega arith) (st.1, st.2, st.3) in (st.0, z.0, z.1, z.2)

  pub stored_away : (log : List (Entry C A)) (at : ℕ) (homes : List (Option (Slot T C A))) (views : List (View C A)) (p : ℕ) → 0 < p → Stored place_of legal stands place log at homes views p → homes ≡ none ∷ []
  stored_away log at homes views zero some_phase st = absurd (omega arith)
  stored_away log at homes views (suc p) some_phase st = st.0
