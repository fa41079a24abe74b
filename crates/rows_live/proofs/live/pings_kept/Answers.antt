use Rattle.rows_live.proofs.live.pings_kept.Goals as goal

pub loop-ping-preserved : goal.loop-ping-preserved
loop-ping-preserved c = λ config over. c.deliver.ensures.over config (c.loop-ping.invariant config over)
