use Rattle.ch_worker.proofs.RunLaws.{all_is_done, nobody_is_lost}
use Rattle.ch_worker.proofs.laws.nobody_is_lost.Goals as goal

pub returns : goal.returns
returns c = record { counts = nobody_is_lost; done = all_is_done }
