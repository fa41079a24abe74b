use Rattle.ch_batch.proofs.CollectLaws.{collects_chain}
use Rattle.ch_batch.proofs.laws.gathers_chain.Goals as goal

pub returns : goal.returns
returns c = collects_chain
