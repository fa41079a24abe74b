-- What the answer of a turn tells of the wire.
use Rattle.std.specs.Prelude.{◌≡◌, ◌≤◌, ◌⊎◌, ℕ, List, [], ◌∷◌, length}
use Rattle.ch_base.specs.declared.frame.Frame.TheVariants.{Error}
use Rattle.ch_io.specs.Counts.{Rose}
use Rattle.ch_io.specs.declared.counts.Counts.{Counts}
use Rattle.ch_net.specs.declared.wire.Message.{Message}
use Rattle.ch_base.specs.Printed.{printed}
use Rattle.ch_live.specs.declared.turn.Turn.{Turn}
use Rattle.ch_live.specs.declared.turn.Turn.TheVariants.{Idle, Ended}
use Rattle.ch_live.specs.declared.turn.End.TheVariants as end
use Rattle.ch_live.specs.declared.turn.Farewell.{Farewell}
use Rattle.ch_live.specs.declared.turn.Farewell.TheVariants as farewell

-- the text of the error with which the connection ends, where the wire took it
abbrev pub farewell_texts : ℕ → Farewell → List (List ℕ)
farewell_texts code farewell.Sent = printed (Error code) 0 ∷ []
farewell_texts code _ = []

-- the text that the wire takes at the end of the turn
abbrev pub last_texts : Turn → List (List ℕ)
last_texts (Ended (end.Code code farewell)) = farewell_texts code farewell
last_texts _ = []

-- the code with which the wire is closed: once, at an end with a code
abbrev pub closing_codes : Turn → List ℕ
closing_codes (Ended (end.Code code farewell)) = code ∷ []
closing_codes _ = []

-- the text isn't handed over only where the wire asked for patience or failed, or there was no memory for it
abbrev pub FarewellHasCause : Farewell → Counts → Counts → Type 0
FarewellHasCause farewell.NotSent old new = Rose old.stalls new.stalls ⊎ Rose old.faults new.faults
FarewellHasCause _ old new = Unit {0}

abbrev pub LastHasCause : Turn → Counts → Counts → Type 0
LastHasCause (Ended (end.Code code farewell)) old new = FarewellHasCause farewell old new
LastHasCause _ old new = Unit {0}

-- the count that rose, where the answer needs one
abbrev pub TurnHasCause : Turn → Counts → Counts → Type 0
TurnHasCause Idle old new = Rose old.stalls new.stalls
TurnHasCause (Ended end.Peer) old new = Rose old.ends new.ends
TurnHasCause (Ended end.Fault) old new = Rose old.faults new.faults
TurnHasCause _ old new = Unit {0}

-- a message is lost only where the turn ends for want of memory, and then at most one
abbrev pub MayLoseMessages : Turn → List Message → Type 0
MayLoseMessages (Ended end.Memory) lost = length lost ≤ 1
MayLoseMessages _ lost = lost ≡ []
