use Rattle.std.proofs.Common.{arith}
use Rattle.ch_soak.proofs.Lines.{next_line}
use Rattle.ch_soak.proofs.source.Drawn.refill.Goals as goal

pub returns-clause-left : goal.returns-clause-left
returns-clause-left c =
    let s = c.args.self.now in
    next_line s.lines s.number s.state s.given _ _ _ (omega (arith, s.counted, c.if-self.false)) (omega (arith, c.len.ensures, c.if-self-len.false)) c.in_ok-line.ensures c.state_after-self.ensures
