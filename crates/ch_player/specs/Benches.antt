-- How far the player's bench has come.
use Rattle.ch_config.specs.declared.config.Config.{Config}
use Rattle.ch_desk.specs.AloneCalls.{IsAt}
use Rattle.ch_desk.specs.Bench.{BenchModel, view_of}
use Rattle.ch_desk.specs.Views.{IsDeskOf}
use Rattle.ch_protocol.specs.Shards.{Shards}

-- the bench has the shards of the configuration
abbrev pub HasShards : Config → BenchModel → Type 0
HasShards config bench = IsDeskOf config (view_of bench)

-- the bench's shards have come so far
abbrev pub IsAtShards : BenchModel → Shards → Type 0
IsAtShards bench shards = IsAt (view_of bench) shards
