use Rattle.std.proofs.Common.{◌≡◌, ◌<◌, subst, ◌∙◌, arith}
use Rattle.ch_batch.proofs.TakesInTurn.{Begun-all, Begun-next, Begun-stop}
use Rattle.ch_batch.proofs.batcher.Batcher.gather.Goals as goal

pub returns-in-Err : goal.returns-in-Err
returns-in-Err g c =
    let t = c.in-Err.ensures in
    Begun-stop c.args.now c.loop-shard.shard (g.D.Desk.view c.args.desk.now).chan_shards (g.D.Desk.view c.args.desk.now) (g.D.Desk.view c.loop-shard.desk) (g.D.Desk.view c.take.new.desk)
    c.args.self.now.state c.loop-shard.self.state c.take.new.self.state t.0 c.in-Err.memory
    (subst (λ n. c.loop-shard.shard < n) c.chan_shards-shards.ensures.count c.loop-shard-test.true) c.loop-shard.invariant t.1 t.2 t.3

pub loop-shard-preserved : goal.loop-shard-preserved
loop-shard-preserved g c =
    let t = c.in-Ok.ensures in
    Begun-next c.args.now c.loop-shard.shard (g.D.Desk.view c.args.desk.now) (g.D.Desk.view c.loop-shard.desk) (g.D.Desk.view c.take.new.desk)
    c.args.self.now.state c.loop-shard.self.state c.take.new.self.state t.0 c.loop-shard.invariant t.1 t.2.0 t.2.1 t.3

pub returns : goal.returns
returns g c =
    Begun-all c.args.now c.loop-shard.shard (g.D.Desk.view c.args.desk.now).chan_shards (g.D.Desk.view c.args.desk.now) (g.D.Desk.view c.loop-shard.desk)
    c.args.self.now.state c.loop-shard.self.state c.cut.new.self.state c.cut.result
    (let last : c.loop-shard.shard ≡ c.chan_shards-shards.result = omega arith in last ∙ c.chan_shards-shards.ensures.count)
    c.loop-shard.invariant c.cut.ensures.count c.cut.ensures.ok c.cut.ensures.err
