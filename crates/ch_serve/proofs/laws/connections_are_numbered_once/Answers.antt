use Rattle.ch_serve.proofs.Numbering.{are_numbered_once}
use Rattle.ch_serve.proofs.laws.connections_are_numbered_once.Goals as goal

pub returns : goal.returns
returns g c = are_numbered_once g.row.L.Denot
