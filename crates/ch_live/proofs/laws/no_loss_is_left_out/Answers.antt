use Rattle.ch_live.proofs.LossRuns.{losses_go_on, losses_end}
use Rattle.ch_live.proofs.LossesOnce.{losses_are_once}
use Rattle.ch_live.proofs.LossesStand.{losses_stand}
use Rattle.ch_live.proofs.Outlived.{nothing_outlives}
use Rattle.ch_live.proofs.laws.no_loss_is_left_out.Goals as goal

pub returns-clause-order : goal.returns-clause-order
returns-clause-order c = losses_go_on

pub returns-clause-all : goal.returns-clause-all
returns-clause-all c = losses_end

pub returns-clause-once : goal.returns-clause-once
returns-clause-once c = losses_are_once

pub returns-clause-stand : goal.returns-clause-stand
returns-clause-stand c = losses_stand

pub returns-clause-ended : goal.returns-clause-ended
returns-clause-ended c = nothing_outlives
