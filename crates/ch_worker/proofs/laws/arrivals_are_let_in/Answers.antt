use Rattle.ch_worker.proofs.TurnLaws.{arrivals_are_let_in}
use Rattle.ch_worker.proofs.laws.arrivals_are_let_in.Goals as goal

pub returns : goal.returns
returns g c = arrivals_are_let_in g.L.Link.told
