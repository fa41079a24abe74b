use Rattle.ch_exchange.proofs.TurnLaws as laws
use Rattle.ch_exchange.proofs.laws.links_move.Goals as goal

pub returns : goal.returns
returns c = laws.links_move
