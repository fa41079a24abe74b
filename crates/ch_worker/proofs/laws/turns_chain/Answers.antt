use Rattle.ch_worker.proofs.RunLaws.{turns_chain, turns_make, turns_count}
use Rattle.ch_worker.proofs.laws.turns_chain.Goals as goal

pub returns : goal.returns
returns c = record { chain = turns_chain; calls = turns_make; counts = turns_count }
