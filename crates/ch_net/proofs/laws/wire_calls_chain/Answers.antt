use Rattle.ch_net.proofs.Moving.{WireMoves-then, WireMoves-none}
use Rattle.ch_net.proofs.laws.wire_calls_chain.Goals as goal

pub returns : goal.returns
returns c = record { chain = WireMoves-then; stay = WireMoves-none }
