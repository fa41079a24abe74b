use Rattle.ch_desk.specs.Views.{IsDeskOf}
use Rattle.ch_exchange.specs.Turns.{IsUnfinished}
use Rattle.rows_faults.proofs.exchanges.last_turn.Given as goal

abbrev pub invariant-loop-turn : goal.invariant-loop-turn
invariant-loop-turn g l = IsUnfinished l.exchange.stage × IsDeskOf l.fn.config (g.D.Desk.view l.desk)
