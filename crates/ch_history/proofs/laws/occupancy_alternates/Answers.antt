use Rattle.ch_history.proofs.Occupancy.{occupancy_law}
use Rattle.ch_history.proofs.laws.occupancy_alternates.Goals as goal

pub returns : goal.returns
returns c = occupancy_law
