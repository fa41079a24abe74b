-- What is counted of the house that a drill leaves.
use Rattle.std.specs.Prelude.{ℕ, [], ◌∷◌}
use Rattle.ch_house.specs.declared.counts.ShardCount.{ShardCount}
use Rattle.ch_house.specs.Closes.{ClosedModel}
use Rattle.ch_drill.specs.declared.counts.DrillCounts.{DrillCounts}

-- so many entries, and nothing is left open
abbrev pub all_closed : ℕ → ShardCount
all_closed entries = record { entries = entries; left = 0 }

-- the two channel shards and the two user shards have these counts
abbrev pub closed_after : DrillCounts → ClosedModel
closed_after counts = record {
  chans = all_closed counts.first_chan ∷ all_closed counts.second_chan ∷ [];
  users = all_closed counts.each_user ∷ all_closed counts.each_user ∷ [];
}
