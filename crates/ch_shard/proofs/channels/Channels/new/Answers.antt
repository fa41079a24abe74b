use Rattle.std.proofs.Common.{rules}
use Rattle.ch_shard.proofs.Simulation.{Holds-empty}
use Rattle.ch_shard.proofs.channels.Channels.new.Goals as goal

pub returns : goal.returns
returns c = Holds-empty _ (search rules) (search rules) (search rules) (search rules) (search rules)
