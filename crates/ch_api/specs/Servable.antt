-- Which plans can be served by the shards of a configuration.
use Rattle.std.specs.Prelude.{◌<◌, All}
use Rattle.ch_config.specs.declared.config.Config.{Config}
use Rattle.ch_history.specs.WellFormed.{IsWellFormed}
use Rattle.ch_history.specs.UserLegal.{IsUserWellFormed}
use Rattle.ch_history.specs.Placement.{BelongsTo, UserBelongsTo}
use Rattle.ch_protocol.specs.declared.ask.Ask.{Ask}
use Rattle.ch_protocol.specs.declared.ask.Ask.TheVariants.{Chan, User}
use Rattle.ch_requests.specs.declared.plan.Planned.{Planned}
use Rattle.ch_requests.specs.declared.plan.Planned.TheVariants.{Answer, Ask as AskPlan}

-- the ask is well formed, is on a shard that there is, and belongs to it
abbrev pub IsServable : Config → Ask → Type 0
IsServable config (Chan shard call) = IsWellFormed call × (shard < config.chan_shards) × BelongsTo (shard, config.chan_shards) call
IsServable config (User shard call) = IsUserWellFormed call × (shard < config.user_shards) × UserBelongsTo (shard, config.user_shards) call

-- all asks of the plan are
abbrev pub AreServable : Config → Planned → Type 0
AreServable config (Answer reply) = Unit {0}
AreServable config (AskPlan plan) = All (IsServable config) plan.asks
