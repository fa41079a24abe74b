use Rattle.std.proofs.Common.{refl}
use Rattle.ch_clients.specs.Serving.{Leaves}
use Rattle.ch_clients.proofs.lists.leave_live.Goals as goal

pub returns-then-owes : goal.returns-then-owes
returns-then-owes g c = (Leaves c.args.live.peer, (c.if-owes.ensures.0 refl, refl), refl, c.add.ensures)
