use Rattle.std.proofs.Common.{arith}
use Rattle.std.proofs.lemmas.List.{take_rest}
use Rattle.ch_post.proofs.Writing.{wrote_more}
use Rattle.ch_post.proofs.talk.Talk.write.Goals as goal

pub loop-self-preserved-in-Wrote : goal.loop-self-preserved-in-Wrote
loop-self-preserved-in-Wrote g c =
    let l = c.loop-self in
    let moves = c.in-Wrote.ensures.moves in (
      wrote_more c.link_calls_chain.ensures c.args.bytes.now l.left.now _ c.in-Wrote.count
          (record { link = g.L.Link.told c.args.self.now.link; goes_on = c.args.self.now.goes_on })
          (record { link = g.L.Link.told l.self.link; goes_on = l.self.goes_on })
          (record { link = g.L.Link.told c.write.new.self; goes_on = l.self.goes_on })
          l.invariant.0 c.loop-self-test.true c.loop-self-test.true (take_rest l.left.now c.in-Wrote.count) moves,
      record { counted = omega (arith, l.invariant.1.counted, moves.counts.stalls); few = l.invariant.1.few },
    )
