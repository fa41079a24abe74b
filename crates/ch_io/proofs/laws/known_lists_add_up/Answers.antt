use Rattle.ch_io.proofs.Lists.{Takes-then, Adds-then, Takes-none, Adds-none}
use Rattle.ch_io.proofs.laws.known_lists_add_up.Goals as goal

pub returns : goal.returns
returns g c = record { takes = Takes-then; adds = Adds-then; takes_nothing = Takes-none; adds_nothing = Adds-none }
