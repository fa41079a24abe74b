-- What the answer of a turn tells of the link.
use Rattle.ch_io.specs.Counts.{Rose}
use Rattle.ch_io.specs.declared.counts.Counts.{Counts}
use Rattle.ch_exchange.specs.declared.turn.ExTurn.{ExTurn}
use Rattle.ch_exchange.specs.declared.turn.ExTurn.TheVariants.{Idle, Peer, Fault}

-- the count that rose, where the answer needs one
abbrev pub TurnHasCause : ExTurn → Counts → Counts → Type 0
TurnHasCause Idle old new = Rose old.stalls new.stalls
TurnHasCause Peer old new = Rose old.ends new.ends
TurnHasCause Fault old new = Rose old.faults new.faults
TurnHasCause _ old new = Unit {0}
