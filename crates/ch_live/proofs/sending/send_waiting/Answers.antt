use Rattle.std.proofs.Common.{sym, refl}
use Rattle.ch_base.specs.Printed.{printed}
use Rattle.ch_live.proofs.Sendings.{HasSent-next, HasSent-all}
use Rattle.ch_live.proofs.sending.send_waiting.Goals as goal

pub loop-waiting-preserved : goal.loop-waiting-preserved
loop-waiting-preserved g c =
    let l = c.loop-waiting in
    let frame = c.in-Some.waiting.now in
    HasSent-next c.args.start c.args.backlog.now l.backlog (g.W.Wire.told c.args.wire.now) (g.W.Wire.told l.wire) (g.W.Wire.told c.send.new.wire)
    frame (printed frame c.args.start) c.first_sent.new.self l.invariant (sym c.in-Some.ensures) refl c.first_sent.ensures c.in-Put.ensures.moves

pub returns : goal.returns
returns g c =
    let l = c.loop-waiting in
    HasSent-all c.args.start c.args.backlog.now l.backlog (g.W.Wire.told c.args.wire.now) (g.W.Wire.told l.wire) l.invariant (sym c.in_default.ensures)
