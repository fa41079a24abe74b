-- What a shard keeps.
use Rattle.std.specs.Prelude.{ℕ, List}
use Rattle.ch_shard.specs.declared.brief.Brief.{Brief}
use Rattle.ch_shard.specs.Parts.{Parts}

-- its parts, its last entries, and its clock
pub record ShardState : Type 0 where
  pub parts : Parts
  pub tail : List Brief
  pub clock : ℕ
