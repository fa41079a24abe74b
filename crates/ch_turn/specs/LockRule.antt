-- The rule of a lock's table: what holds between any two steps, whichever threads make them.
use Rattle.std.specs.Prelude.{◌≡◌, ℕ, zero, suc, ◌+◌, ◌-◌, ◌*◌, ◌<◌, ◌≤◌, false, List, [], ◌∷◌, ◌++◌, length}
use mathlib.Core.Option.{Option, none, some}
use lib.ListN.{get_elem?}
use Rattle.atomic_table.specs.Table.{State}
use Rattle.ch_base.specs.Growth.{NotBy}
use Rattle.ch_base.specs.declared.limits.TheConstants.{MAX_CALLERS}
use Rattle.ch_turn.specs.declared.limits.TheConstants.{MOST_CALLS}
use Rattle.ch_turn.specs.declared.table.View.{View}
use Rattle.ch_turn.specs.declared.table.Stage.{Stage}
use Rattle.ch_turn.specs.declared.table.Stage.TheVariants.{Idle, Waits, Holds, Recorded}
use Rattle.ch_turn.specs.declared.table.Slot.{Slot}
use Rattle.ch_turn.specs.declared.table.Slot.TheVariants.{Value}
use Rattle.ch_turn.specs.Callers.{CallersBelow}
use Rattle.ch_turn.specs.Tickets.{HasTicket, HasTurn}
use Rattle.ch_turn.specs.Views.{History, total, calls_of, callers_of}

module _ {C A : Type 0} where
  -- what a seat's stage says: a ticket that waits is not served yet, and a seat that has its turn has seen all.
  -- The phase is 0 while the value is at home, 1 while a seat has the slot, and 2 once that seat's call is entered
  abbrev pub StageFits : History C A → ℕ → ℕ → ℕ → Stage → Type 0
  StageFits unseen serving phase ticket Idle = Unit {0}
  StageFits unseen serving phase ticket (Waits t) = (serving ≤ t) × (t < ticket)
  StageFits unseen serving phase ticket (Holds t) = (t ≡ serving) × (t < ticket) × (phase ≡ 1) × (unseen ≡ [])
  StageFits unseen serving phase ticket (Recorded t) = (t ≡ serving) × (t < ticket) × (phase ≡ 2) × (unseen ≡ [])

  -- what holds of each seat. `owner` tells which seat has a ticket, and `holder` which has a caller number
  pub record SeatFits (place : ℕ × ℕ) (callers : ℕ) (log : History C A) (ticket serving phase : ℕ) (owner holder : ℕ → ℕ) (seat : ℕ) (v : View C A) : Type 0 where
    -- what the seat has seen and what it was told begin the history
    pub unseen : History C A
    pub seen_begins : v.seen ++ unseen ≡ log
    pub untold : History C A
    pub told_begins : v.told ++ untold ≡ log
    -- its caller numbers are a range, and it has seen, or was told, each entry of theirs
    pub range : (v.low ≤ v.told_from) × (v.told_from ≤ v.high) × (v.high ≤ callers)
    pub held : (i : ℕ) → v.low ≤ i → i < v.high
        → (holder i ≡ seat) × (i < v.told_from → NotBy i unseen) × (v.told_from ≤ i → NotBy i untold)
    pub few_calls : v.calls ≤ (v.high - v.low) * MOST_CALLS
    pub staged : StageFits unseen serving phase ticket v.stage
    -- a seat with a ticket is that of one caller, and has nothing to merge
    pub owned : (t : ℕ) → HasTicket t v.stage
        → (owner t ≡ seat) × (v.high ≡ v.low + 1) × (v.spent ≡ false) × (v.told_from ≡ v.high)
    pub placed : v.spent ≡ false → (v.place ≡ place) × (v.callers ≡ callers)

module _ {T C A : Type 0} (place_of : T → ℕ × ℕ) (legal : ℕ × ℕ → History C A → Type 0) (stands : T → History C A → Type 0) where
  -- at phase 0 a value that stands for the history is at home; else the slot is out, with the seat that has its turn
  abbrev pub Stored : ℕ × ℕ → History C A → ℕ → List (Option (Slot T C A)) → List (View C A) → ℕ → Type 0
  Stored place log seat homes views zero =
      (x : T) × (homes ≡ some (Value x) ∷ []) × stands x log × (place_of x ≡ place)
  Stored place log seat homes views (suc p) =
      (homes ≡ none ∷ []) × (v : View C A) × (get_elem? views seat ≡ some v) × ((t : ℕ) × HasTurn t v.stage)

  -- the rule
  pub record Kept (place : ℕ × ℕ) (callers : ℕ) (s : State (Slot T C A) (View C A)) : Type 0 where
    pub log : History C A
    pub ticket : ℕ
    pub serving : ℕ
    pub phase : ℕ
    pub owner : ℕ → ℕ
    pub holder : ℕ → ℕ
    pub words : s.words ≡ ticket ∷ serving ∷ length log ∷ []
    pub order : (serving ≤ ticket) × (phase ≤ 2) × (callers ≤ MAX_CALLERS)
    -- each served ticket has one entry at most
    pub few_entries : length log ≤ serving + (phase - 1)
    pub is_legal : legal place log
    pub known_callers : CallersBelow callers log
    pub stored : Stored place log (owner serving) s.homes s.views phase
    pub each_seat : (j : ℕ) (v : View C A) → get_elem? s.views j ≡ some v
        → SeatFits place callers log ticket serving phase owner holder j v
    -- no ticket from serving to below ticket is lost, nor any caller number. With `owned` and `held`, each is with
    -- just one seat
    pub each_ticket : (t : ℕ) → serving ≤ t → t < ticket
        → (v : View C A) × (get_elem? s.views (owner t) ≡ some v) × HasTicket t v.stage
    pub each_caller : (i : ℕ) → i < callers
        → (v : View C A) × (get_elem? s.views (holder i) ≡ some v) × ((v.low ≤ i) × (i < v.high))
    pub all_calls : total calls_of s.views ≡ ticket
    pub all_callers : total callers_of s.views ≡ callers
