-- What each step tells the seat that makes it.
-- The seat is m before the step and m' after it, and r is the number that the step finds.
use Rattle.std.specs.Prelude.{◌≡◌, ◌≢◌, ◌⊎◌, ℕ, ◌+◌, ◌<◌, ◌≤◌, [], ◌∷◌, ◌++◌}
use Rattle.atomic_table.specs.Table.{Step}
use Rattle.std.specs.declared.snapshot.Snapshot.{Snapshot}
use Rattle.ch_base.specs.Growth.{entry, NotBy}
use Rattle.ch_turn.specs.Callers.{CallersBelow}
use Rattle.ch_turn.specs.declared.table.View.{View}
use Rattle.ch_turn.specs.declared.table.Stage.TheVariants.{Idle, Waits, Holds, Recorded}
use Rattle.ch_turn.specs.declared.table.Slot.{Slot}
use Rattle.ch_turn.specs.declared.table.Slot.TheVariants.{Value, Pending}
use Rattle.ch_turn.specs.Views.{History, SeatState}

module _ {T C A : Type 0} where
  -- the number found is the seat's ticket
  abbrev pub Draws : Step (Slot T C A) → SeatState T C A → ℕ → SeatState T C A → Type 0
  Draws step m r m' = (m'.1 ≡ m.1) × (m'.0 ≡ record m.0 { stage = Waits r; calls = m.0.calls + 1 })

  -- where a call is pending, its entry is the last that the seat has seen
  abbrev pub Commits : Step (Slot T C A) → SeatState T C A → ℕ → SeatState T C A → Type 0
  Commits step m r m' = (t : ℕ) (call : Snapshot C) (answer : Snapshot A)
      → m.0.stage ≡ Holds t → m.1 ≡ (0, Pending call answer) ∷ []
      → (m'.1 ≡ m.1)
      × (m'.0 ≡ record m.0 { stage = Recorded t; seen = m.0.seen ++ entry m.0.low call.value answer.value ∷ [] })

  -- the seat has no ticket and no slot any more
  abbrev pub Advances : Step (Slot T C A) → SeatState T C A → ℕ → SeatState T C A → Type 0
  Advances step m r m' = (m'.1 ≡ []) × (m'.0 ≡ record m.0 { stage = Idle })

module _ {T C A : Type 0} (place_of : T → ℕ × ℕ) (legal : ℕ × ℕ → History C A → Type 0) (stands : T → History C A → Type 0) where
  -- the seat v has come to its turn with the ticket t, and has taken the value x. It has seen the whole history, for
  -- which x stands, and had seen all entries of its caller before
  pub record Arrives (t : ℕ) (v : View C A) (x : T) (v' : View C A) : Type 0 where
    pub between : History C A
    pub others : NotBy v.low between
    pub view : v' ≡ record v { stage = Holds t; seen = v.seen ++ between }
    pub lawful : legal v.place (v.seen ++ between)
    pub known : CallersBelow v.callers (v.seen ++ between)
    pub right : stands x (v.seen ++ between)
    pub placed : place_of x ≡ v.place

  -- where the number found is its ticket, the seat has come to its turn; else nothing changed
  abbrev pub Looks : Step (Slot T C A) → SeatState T C A → ℕ → SeatState T C A → Type 0
  Looks step m r m' = (t : ℕ) → m.0.stage ≡ Waits t
      → (r ≡ t → (x : T) × (m'.1 ≡ (0, Value x) ∷ m.1) × Arrives t m.0 x m'.0)
      × (r ≢ t → m' ≡ m)

  -- the seat has seen the longer of its list and of what it was told. The other begins it, and what comes after that is
  -- of no caller of the seat that it came with
  pub record Merges (step : Step (Slot T C A)) (m : SeatState T C A) (r : ℕ) (m' : SeatState T C A) : Type 0 where
    pub hand : m'.1 ≡ m.1
    pub view : m'.0 ≡ record m.0 { seen = m'.0.seen; told = []; told_from = m.0.high }
    pub longer : (m'.0.seen ≡ m.0.seen) ⊎ (m'.0.seen ≡ m.0.told)
    pub lawful : legal m.0.place m'.0.seen
    pub known : CallersBelow m.0.callers m'.0.seen
    pub after_seen : (more : History C A) × (m.0.seen ++ more ≡ m'.0.seen)
        × ((i : ℕ) → m.0.low ≤ i → i < m.0.told_from → NotBy i more)
    pub after_told : (more : History C A) × (m.0.told ++ more ≡ m'.0.seen)
        × ((i : ℕ) → m.0.told_from ≤ i → i < m.0.high → NotBy i more)
