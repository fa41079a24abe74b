use Rattle.ch_config.specs.declared.config.Config.{Config}
use Rattle.ch_live.specs.Peers.{IsPeerOver}
use Rattle.rows_live.proofs.live.pings_kept.Given as goal

abbrev pub invariant-loop-ping : goal.invariant-loop-ping
invariant-loop-ping l = (config : Config) → IsPeerOver config l.fn.live.peer → IsPeerOver config l.live.peer
