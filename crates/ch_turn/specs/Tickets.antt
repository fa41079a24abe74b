-- Which ticket a seat has, and whether it is its turn.
use Rattle.std.specs.Prelude.{◌≡◌, ℕ}
use Rattle.ch_turn.specs.declared.table.Stage.{Stage}
use Rattle.ch_turn.specs.declared.table.Stage.TheVariants.{Idle, Waits, Holds, Recorded}

-- a seat at this stage has the ticket t
abbrev pub HasTicket : ℕ → Stage → Type 0
HasTicket t Idle = ⊥
HasTicket t (Waits k) = k ≡ t
HasTicket t (Holds k) = k ≡ t
HasTicket t (Recorded k) = k ≡ t

-- its ticket t is served, and it has the slot
abbrev pub HasTurn : ℕ → Stage → Type 0
HasTurn t Idle = ⊥
HasTurn t (Waits k) = ⊥
HasTurn t (Holds k) = k ≡ t
HasTurn t (Recorded k) = k ≡ t
