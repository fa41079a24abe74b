use Rattle.ch_house.specs.DeskViews.{view_of}
use Rattle.ch_serve.proofs.Gathering.{drops_none, drops_more}
use Rattle.ch_serve.proofs.posting.drop_rounds.Goals as goal

pub loop-turn-init : goal.loop-turn-init
loop-turn-init g c = drops_none (view_of c.args.desk.now)

pub loop-turn-preserved : goal.loop-turn-preserved
loop-turn-preserved g c =
    let one = c.drop_events.ensures in
    drops_more c.loop-turn._turn c.now-now.result (view_of c.args.desk.now) (view_of c.loop-turn.desk) (view_of c.drop_events.new.desk) one.0 c.calls_chain.ensures.chain
    c.loop-turn.invariant one.1 one.2
