use Rattle.ch_house.specs.DeskViews.{view_of}
use Rattle.ch_serve.proofs.Gathering.{gathers_none, gathers_then}
use Rattle.ch_serve.proofs.posting.post_rounds.Goals as goal

pub loop-turn-init : goal.loop-turn-init
loop-turn-init g c = gathers_none (view_of c.args.desk.now) c.args.sending.now.batcher.state

pub loop-turn-preserved : goal.loop-turn-preserved
loop-turn-preserved g c =
    gathers_then (view_of c.args.desk.now) (view_of c.loop-turn.desk) (view_of c.post_round.new.desk) c.args.sending.now.batcher.state c.loop-turn.sending.batcher.state
    c.post_round.new.sending.batcher.state c.gathers_chain.ensures c.loop-turn.invariant c.post_round.ensures
