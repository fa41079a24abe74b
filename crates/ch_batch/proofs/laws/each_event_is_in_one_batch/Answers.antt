use Rattle.ch_batch.proofs.BatchLaws.{batches_law}
use Rattle.ch_batch.proofs.laws.each_event_is_in_one_batch.Goals as goal

pub returns : goal.returns
returns c = batches_law
