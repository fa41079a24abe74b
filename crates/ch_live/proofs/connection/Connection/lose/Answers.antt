use Rattle.std.proofs.Common.{List, subst}
use Rattle.std.specs.Prelude.{OnOk}
use Rattle.ch_dispatch.specs.Losses.{MakesLosses, AreAllLosses}
use Rattle.ch_protocol.specs.Asks.{Asked}
use Rattle.ch_live.specs.Connections.{Connected}
use Rattle.ch_live.proofs.connection.Connection.lose.Goals as goal

pub returns-clause-losses : goal.returns-clause-losses
returns-clause-losses g c =
    let P : Connected → Type 0 = λ x. (asked : List Asked)
    × MakesLosses c.args.now asked x.session c.lose.new.session (g.D.Desk.view c.args.desk.now) (g.D.Desk.view c.lose.new.desk)
    × OnOk c.lose.result (AreAllLosses c.args.now asked x.session) in
    subst P c.self.view_is c.lose.ensures.losses
