-- What a seat is between the steps of a call, and while a lock begins and ends.
use Rattle.std.specs.Prelude.{◌≡◌, ℕ, ◌+◌, ◌<◌, ◌≤◌, false, [], ◌∷◌}
use Rattle.ch_base.specs.declared.limits.TheConstants.{MAX_CALLERS}
use Rattle.ch_turn.specs.declared.limits.TheConstants.{MOST_CALLS}
use Rattle.ch_turn.specs.declared.table.View.{View}
use Rattle.ch_turn.specs.declared.table.Stage.TheVariants.{Idle}
use Rattle.ch_turn.specs.declared.table.Slot.{Slot}
use Rattle.ch_turn.specs.declared.table.Slot.TheVariants.{Taken}
use Rattle.ch_turn.specs.Callers.{CallersBelow}
use Rattle.ch_turn.specs.Tickets.{HasTurn}
use Rattle.ch_turn.specs.Views.{History, SeatState}
use Rattle.ch_turn.specs.StepEffects.{Arrives}

module _ {T C A : Type 0} where
  -- the seat of one caller between two calls
  pub record Rests (m : SeatState T C A) : Type 0 where
    pub idle : m.0.stage ≡ Idle
    pub one_caller : m.0.high ≡ m.0.low + 1
    pub merged : m.0.told_from ≡ m.0.high
    pub live : m.0.spent ≡ false
    pub empty_hand : m.1 ≡ []

  -- the seat of a pass, which has seen a legal list of calls of the lock's callers
  pub record IsPassSeat (legal : ℕ × ℕ → History C A → Type 0) (m : SeatState T C A) (caller calls : ℕ) : Type 0 where
    pub rests : Rests m
    pub caller_is : m.0.low ≡ caller
    pub caller_below : (caller < m.0.callers) × (m.0.callers ≤ MAX_CALLERS)
    pub calls_are : m.0.calls ≡ calls
    pub most_calls : calls ≤ MOST_CALLS
    pub seen_legal : legal m.0.place m.0.seen
    pub seen_known : CallersBelow m.0.callers m.0.seen

  -- the seat has its turn, and the slot, whatever lies in it
  abbrev pub HasSlot : SeatState T C A → Type 0
  HasSlot m = (t : ℕ) × HasTurn t m.0.stage × (y : Slot T C A) × (m.1 ≡ (0, y) ∷ [])

module _ {T C A : Type 0} (place_of : T → ℕ × ℕ) (legal : ℕ × ℕ → History C A → Type 0) (stands : T → History C A → Type 0) where
  -- the seat has drawn a ticket, has come to its turn, and has taken the value x out of the slot
  abbrev pub Enters : SeatState T C A → T → SeatState T C A → Type 0
  Enters m x m' = (t : ℕ) × (m'.1 ≡ (0, Taken) ∷ [])
      × Arrives place_of legal stands t (record m.0 { calls = m.0.calls + 1 }) x m'.0

module _ {C A : Type 0} where
  -- the first seat, once the caller numbers below i were dealt
  abbrev pub dealer_view : ℕ × ℕ → ℕ → ℕ → View C A
  dealer_view place callers i = record {
    seen = [];
    told = [];
    place = place;
    callers = callers;
    low = i;
    high = callers;
    told_from = callers;
    calls = 0;
    stage = Idle;
    spent = false;
  }

  -- a seat that has taken over the callers below k
  pub record Gathered (v : View C A) (k : ℕ) : Type 0 where
    pub idle : v.stage ≡ Idle
    pub from_first : v.low ≡ 0
    pub up_to : v.high ≡ k
    pub merged : v.told_from ≡ v.high
    pub live : v.spent ≡ false
