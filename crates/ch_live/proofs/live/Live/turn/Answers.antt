use Rattle.std.proofs.Common.{refl}
use Rattle.ch_live.specs.declared.peer.Peer.TheVariants.{Open, Refused}
use Rattle.ch_live.proofs.Turning.{open_turn, turned_away}
use Rattle.ch_live.proofs.live.Live.turn.Goals as goal

pub returns-in-Open-clause-turn : goal.returns-in-Open-clause-turn
returns-in-Open-clause-turn g c =
    let a = c.args in
    open_turn a.config.now a.now c.in-Open.connection c.turn.new.self a.self.now.peer (Open c.turn.new.self) (g.W.Wire.told a.self.now.wire) (g.W.Wire.told c.turn.new.wire)
    (g.D.Desk.view a.desk.now) (g.D.Desk.view c.turn.new.desk) c.turn.result c.in-Open.is refl c.turn.ensures.course

pub returns-in-Refused-clause-turn : goal.returns-in-Refused-clause-turn
returns-in-Refused-clause-turn g c =
    let a = c.args in
    let x = c.end_with.ensures in
    turned_away a.config.now a.now c.in-Refused.code a.self.now.peer (Refused c.in-Refused.code) (g.W.Wire.told a.self.now.wire) (g.W.Wire.told c.end_with.new.wire)
    (g.D.Desk.view a.desk.now) c.end_with.result c.in-Refused.is refl x.ends x.moves x.last
