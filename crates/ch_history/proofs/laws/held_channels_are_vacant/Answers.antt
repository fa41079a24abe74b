use Rattle.ch_history.proofs.Occupancy.{held_law}
use Rattle.ch_history.proofs.laws.held_channels_are_vacant.Goals as goal

pub returns : goal.returns
returns c = held_law
