use Rattle.ch_house.proofs.HouseNames as names
use Rattle.ch_house.proofs.laws.names_tell_houses.Goals as goal

pub returns : goal.returns
returns c = names.names_tell_houses
