-- A channel shard at its place: its number, and how many channel shards there are.
use Rattle.std.specs.Prelude.{ℕ}
use Rattle.ch_base.specs.declared.channel.ChanCall.{ChanCall}
use Rattle.ch_history.specs.Entries.{ChanHistory}
use Rattle.ch_history.specs.WellFormed.{IsWellFormed}
use Rattle.ch_history.specs.Placement.{BelongsTo, IsLegalAt}
use Rattle.ch_shard.specs.ShardState.{ShardState}
use Rattle.ch_shard.specs.Stands.{Stands}

-- the call is well formed, and belongs to the shard
abbrev pub Fits : ℕ × ℕ → ChanCall → Type 0
Fits place call = IsWellFormed call × BelongsTo place call

-- the shard stands for the history, and every call in it belongs to the shard
abbrev pub StandsAt : ShardState → ℕ × ℕ → ChanHistory → Type 0
StandsAt shard place h = Stands shard h × IsLegalAt place h
