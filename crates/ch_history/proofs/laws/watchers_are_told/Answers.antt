use Rattle.ch_history.proofs.Watchers.{watchers_law}
use Rattle.ch_history.proofs.laws.watchers_are_told.Goals as goal

pub returns : goal.returns
returns c = watchers_law
