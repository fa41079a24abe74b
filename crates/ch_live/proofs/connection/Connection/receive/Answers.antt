use Rattle.std.proofs.Common.{refl, []}
use Rattle.ch_net.specs.declared.wire.Message.TheVariants.{Text, Binary}
use Rattle.ch_live.specs.declared.turn.Turn.TheVariants.{Ended}
use Rattle.ch_live.specs.declared.turn.End.TheVariants.{Peer, Fault, Memory}
use Rattle.ch_live.proofs.Listenings.{hears_none, hears_one, quiet_by, no_loss}
use Rattle.ch_live.proofs.connection.Connection.receive.Goals as goal

pub returns-in-Said : goal.returns-in-Said
returns-in-Said g c =
    let a = c.args in
    let h = c.heed.ensures in
    hears_one a.config.now a.now a.moved a.self.now c.heed.new.self (g.W.Wire.told a.wire.now) (g.W.Wire.told c.recv.new.self) (g.W.Wire.told c.heed.new.wire)
    (g.D.Desk.view a.desk.now) (g.D.Desk.view c.heed.new.desk) (Text c.in-Said.text) h.heard.0 c.heed.result c.in-Said.ensures.moves h.heard.2 h.heard.1 h.moves h.last

pub returns-in-Binary : goal.returns-in-Binary
returns-in-Binary g c =
    let a = c.args in
    let h = c.heed-in-Binary.ensures in
    hears_one a.config.now a.now a.moved a.self.now c.heed-in-Binary.new.self (g.W.Wire.told a.wire.now) (g.W.Wire.told c.recv.new.self) (g.W.Wire.told c.heed-in-Binary.new.wire)
    (g.D.Desk.view a.desk.now) (g.D.Desk.view c.heed-in-Binary.new.desk) Binary h.heard.0 c.heed-in-Binary.result c.in-Binary.ensures.moves h.heard.2 h.heard.1 h.moves h.last

pub returns-in-Quiet : goal.returns-in-Quiet
returns-in-Quiet g c =
    let a = c.args in
    let x = c.in-Quiet.ensures in
    let w = g.W.Wire.told a.wire.now in
    let v = g.W.Wire.told c.recv.new.self in
    hears_none a.config.now a.now a.moved a.self.now w v (g.D.Desk.view a.desk.now) [] c.moved_or_idle.result x.moves (no_loss c.moved_or_idle.result)
    (quiet_by a.moved w.counts v.counts c.moved_or_idle.result c.moved_or_idle.ensures x.cause)

pub returns-in-Gone : goal.returns-in-Gone
returns-in-Gone g c =
    let a = c.args in
    let x = c.in-Gone.ensures in
    hears_none a.config.now a.now a.moved a.self.now (g.W.Wire.told a.wire.now) (g.W.Wire.told c.recv.new.self) (g.D.Desk.view a.desk.now) [] (Ended Peer)
    x.moves refl (refl, refl, x.cause)

pub returns-in-Failed : goal.returns-in-Failed
returns-in-Failed g c =
    let a = c.args in
    let x = c.in-Failed.ensures in
    hears_none a.config.now a.now a.moved a.self.now (g.W.Wire.told a.wire.now) (g.W.Wire.told c.recv.new.self) (g.D.Desk.view a.desk.now) [] (Ended Fault)
    x.moves refl (refl, refl, x.cause)

pub returns-in-Memory : goal.returns-in-Memory
returns-in-Memory g c =
    let a = c.args in
    let x = c.in-Memory.ensures in
    hears_none a.config.now a.now a.moved a.self.now (g.W.Wire.told a.wire.now) (g.W.Wire.told c.recv.new.self) (g.D.Desk.view a.desk.now) x.moves.0 (Ended Memory)
    x.moves.2 x.moves.1 (refl, refl)
