-- The workers of a drill at their desks.
use Rattle.std.specs.Prelude.{◌≡◌}
use Rattle.ch_config.specs.declared.config.Config.{Config}
use Rattle.ch_desk.specs.Views.{IsDeskOf}
use Rattle.ch_house.specs.DeskViews.{view_of}
use Rattle.ch_drill.specs.declared.seat.Seat.{Seat}

-- there are two shards of each kind
abbrev pub HasTwoShards : Config → Type 0
HasTwoShards config = (config.chan_shards ≡ 2) × (config.user_shards ≡ 2)

-- the desk has the shards of the worker's configuration
abbrev pub MayWork : Seat → Type 0
MayWork seat = IsDeskOf seat.worker.clients.config (view_of seat.desk)
