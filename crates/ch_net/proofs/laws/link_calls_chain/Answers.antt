use Rattle.ch_net.proofs.Moving.{LinkMoves-then, LinkMoves-none}
use Rattle.ch_net.proofs.laws.link_calls_chain.Goals as goal

pub returns : goal.returns
returns c = record { chain = LinkMoves-then; stay = LinkMoves-none }
