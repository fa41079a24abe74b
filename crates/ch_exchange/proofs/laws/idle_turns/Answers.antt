use Rattle.ch_exchange.proofs.TurnLaws as laws
use Rattle.ch_exchange.proofs.laws.idle_turns.Goals as goal

pub returns : goal.returns
returns c = laws.idle_turns
