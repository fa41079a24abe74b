use Rattle.ch_exchange.proofs.Written.{HasWritten-next}
use Rattle.ch_exchange.proofs.writing.write_out.Goals as goal

pub loop-link-preserved : goal.loop-link-preserved
loop-link-preserved g c =
    let l = c.loop-link in
    HasWritten-next c.args.reply.now l.reply c.wrote.new.self (g.L.Link.told c.args.link.now) (g.L.Link.told l.link) (g.L.Link.told c.write.new.self) c.in-Wrote.count
    c.left-in-loop-link.result.now l.invariant c.left-in-loop-link.ensures c.in-Wrote.ensures.moves c.wrote.ensures
