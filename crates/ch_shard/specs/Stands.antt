-- Which histories a channel shard stands for.
use Rattle.std.specs.Prelude.{◌≡◌}
use Rattle.ch_history.specs.Entries.{ChanHistory}
use Rattle.ch_history.specs.Clock.{clock}
use Rattle.ch_history.specs.Legal.{IsLegal}
use Rattle.ch_shard.specs.Holds.{Holds}
use Rattle.ch_shard.specs.ShardState.{ShardState}
use Rattle.ch_shard.specs.Tail.{tail_of}

-- the history is legal, and what the shard keeps is what the history says
pub record Stands (shard : ShardState) (h : ChanHistory) : Type 0 where
  pub legal : IsLegal h
  pub parts : Holds shard.parts h
  pub tail : shard.tail ≡ tail_of h
  pub clock : shard.clock ≡ clock h
