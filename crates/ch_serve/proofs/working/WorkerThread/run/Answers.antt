use Rattle.ch_serve.proofs.Turning.{turned_none, turned_more}
use Rattle.ch_serve.proofs.working.WorkerThread.run.Goals as goal

pub loop-turn-init : goal.loop-turn-init
loop-turn-init g c = record { turned = turned_none c.args.self.now; seated = c.requires }

pub loop-turn-preserved : goal.loop-turn-preserved
loop-turn-preserved g c = record {
  turned = turned_more c.loop-turn._turn c.args.self.now c.loop-turn.self c.turn.new.self c.turns_chain.ensures.chain c.turns_chain.ensures.counts
      c.loop-turn.invariant.turned c.turn.ensures.turned;
  seated = c.turn.ensures.seated;
}
