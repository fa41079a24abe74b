-- A user shard at its place: its number, and how many user shards there are.
use Rattle.std.specs.Prelude.{ℕ}
use Rattle.ch_base.specs.declared.user.UserCall.{UserCall}
use Rattle.ch_history.specs.Entries.{UserHistory}
use Rattle.ch_history.specs.UserLegal.{IsUserWellFormed}
use Rattle.ch_history.specs.Placement.{UserBelongsTo, IsUserLegalAt}
use Rattle.ch_ushard.specs.UserShardState.{UserShardState}
use Rattle.ch_ushard.specs.Stands.{Stands}

-- the call is well formed, and belongs to the shard
abbrev pub Fits : ℕ × ℕ → UserCall → Type 0
Fits place call = IsUserWellFormed call × UserBelongsTo place call

-- the shard stands for the history, and every call in it belongs to the shard
abbrev pub StandsAt : UserShardState → ℕ × ℕ → UserHistory → Type 0
StandsAt shard place h = Stands shard h × IsUserLegalAt place h
