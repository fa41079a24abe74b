-- What contracts see of a bench.
use Rattle.std.specs.Prelude.{ℕ, List, [], length, slice_index_or}
use Rattle.ch_history.specs.Entries.{ChanHistory, UserHistory}
use Rattle.ch_desk.specs.Views.{DeskView}

-- the history of each channel shard, and of each user shard
pub record BenchModel : Type 0 where
  pub shards : List ChanHistory
  pub users : List UserHistory

-- the history of the channel shard k
abbrev pub seen : BenchModel → ℕ → ChanHistory
seen bench k = slice_index_or bench.shards k []

-- the history of the user shard k
abbrev pub seen_user : BenchModel → ℕ → UserHistory
seen_user bench k = slice_index_or bench.users k []

-- a bench as a desk: that of caller 0
abbrev pub view_of : BenchModel → DeskView
view_of bench = record {
  house = ([], []);
  caller = 0;
  chan_shards = length bench.shards;
  user_shards = length bench.users;
  chans = seen bench;
  users = seen_user bench;
}
