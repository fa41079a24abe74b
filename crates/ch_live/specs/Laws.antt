-- What follows from the definitions of a turn.
use Rattle.std.specs.Prelude.{◌≡◌, ◌≢◌, ◌⊎◌, ◌↔◌, ℕ, List, [], ◌++◌, Some, None}
use Rattle.ch_config.specs.declared.config.Config.{Config}
use Rattle.ch_dispatch.specs.Outcomes.{frames_in}
use Rattle.ch_io.specs.Counts.{Rose}
use Rattle.ch_protocol.specs.Settling.{SettledAsk}
use Rattle.ch_session.specs.Kept.{IsSession}
use Rattle.ch_live.specs.Backlogs.{still_waiting}
use Rattle.ch_live.specs.Connections.{looked_at, ends_at_once}
use Rattle.ch_live.specs.Courses.{Course}
use Rattle.ch_live.specs.Turns.{Scene, TakesCourse, EndsWith}
use Rattle.ch_live.specs.declared.turn.Turn.{Turn}
use Rattle.ch_live.specs.declared.turn.Turn.TheVariants.{Moved, Idle, Memory, Ended}
use Rattle.ch_live.specs.declared.turn.End.{End}

-- this holds of every turn of an open connection
abbrev pub OfTurns : (ℕ → Course → Scene → Scene → Turn → Type 0) → Type 0
OfTurns P = (config : Config) (now : ℕ) (c : Course) (old new : Scene) (result : Turn) → TakesCourse config now c old new result → P now c old new result

abbrev pub IsEnd : Turn → Type 0
IsEnd result = (e : End) × (result ≡ Ended e)

-- the frame that answers a message waits after the turn, behind those that still wait, and leaves the marks as they were
abbrev pub DirectFramesWait : Type 0
DirectFramesWait = OfTurns (λ now c old new result. (start number : ℕ) (asks : List SettledAsk) → IsSession old.connection.session start number asks
    → new.connection.backlog ≡ still_waiting (looked_at now old.connection).backlog (c.kept ++ frames_in c.outcomes))

-- a frame still waits only where the wire asked for patience, the turn found no memory, or it ended
abbrev pub FramesAreSent : Type 0
FramesAreSent = OfTurns (λ now c old new result. c.kept ≢ [] → Rose old.wire.counts.stalls new.wire.counts.stalls ⊎ ((result ≡ Memory) ⊎ IsEnd result))

-- and so for a message that wasn't received
abbrev pub MessagesAreHeard : Type 0
MessagesAreHeard = OfTurns (λ now c old new result. c.received ≡ None → Rose old.wire.counts.stalls new.wire.counts.stalls ⊎ ((result ≡ Memory) ⊎ IsEnd result))

-- a turn in which the wire never asked for patience, and which neither finds no memory nor ends, moved and received a message
abbrev pub TurnsMove : Type 0
TurnsMove = OfTurns (λ now c old new result. (Rose old.wire.counts.stalls new.wire.counts.stalls → ⊥) → result ≢ Memory → (IsEnd result → ⊥)
    → (result ≡ Moved) × (c.received ≢ None))

-- a turn is idle exactly where nothing was sent, nothing received, no memory wanted, and it didn't end
abbrev pub IdleTurns : Type 0
IdleTurns = OfTurns (λ now c old new result.
    (result ≡ Idle) ↔ ((c.sent ≡ []) × (c.received ≡ None) × (result ≢ Memory) × (IsEnd result → ⊥)))

-- a connection that is marked, or whose ping wasn't answered, ends with its code
abbrev pub MarksEnd : Type 0
MarksEnd = OfTurns (λ now c old new result. (code : ℕ) → ends_at_once now old.connection ≡ Some code → EndsWith code result)
