use Rattle.ch_worker.proofs.TurnLaws.{each_shard_is_taken, leavers_are_gone, upgrades_are_made}
use Rattle.ch_worker.proofs.laws.turns_are_whole.Goals as goal

pub returns : goal.returns
returns c = record { takes = each_shard_is_taken; leaving = leavers_are_gone; upgrades = upgrades_are_made }
