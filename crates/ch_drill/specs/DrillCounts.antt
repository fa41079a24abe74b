-- How many entries the shards have after a drill.
use Rattle.std.specs.Prelude.{◌≤◌, ◌<◌, ◌^◌, ◌+◌, ◌*◌, ◌%◌, ◌==◌, ℕ, zero, suc, List, ◌++◌, codes, min, if◌then◌else◌}
use Rattle.std.specs.Fmt.{decimal}
use Rattle.ch_history.specs.Placement.{shard_of}
use Rattle.ch_drill.specs.declared.limits.TheConstants.{MOST_ROUNDS, MOST_WORKERS}
use Rattle.ch_drill.specs.declared.words.Drill.{Drill}
use Rattle.ch_drill.specs.declared.counts.DrillCounts.{DrillCounts}

-- a drill is of 1 to `MOST_WORKERS` workers, and of at most `MOST_ROUNDS` rounds
abbrev pub IsSmall : Drill → Type 0
IsSmall drill = (1 ≤ drill.workers) × (drill.workers ≤ MOST_WORKERS) × (drill.rounds ≤ MOST_ROUNDS)

-- how many turns each worker makes: one for its handshake, one for each message, one to hear that the other side is gone,
-- and one for the losses
abbrev pub turns_of : Drill → ℕ
turns_of drill = 2 * drill.rounds + 3

-- the channel of a round
abbrev pub channel_of : ℕ → List ℕ
channel_of round = codes "drill-" ++ decimal (round % 8)

-- how many of so many rounds have their channel on this shard of two
abbrev pub rounds_on : ℕ → ℕ → ℕ
rounds_on zero shard = 0
rounds_on (suc round) shard = rounds_on round shard + (if shard_of (channel_of round) 2 == shard then 1 else 0)

-- a channel shard has of each worker a Take in each turn, a Join and a Leave in each round there, and one Lost where it
-- had any
abbrev pub chan_entries : Drill → ℕ → ℕ
chan_entries drill shard =
    drill.workers * (turns_of drill + 2 * rounds_on drill.rounds shard + min (rounds_on drill.rounds shard) 1)

-- a user shard has of each worker a Take in each turn
abbrev pub user_entries : Drill → ℕ
user_entries drill = drill.workers * turns_of drill

-- those of all shards
abbrev pub drill_counts : Drill → DrillCounts
drill_counts drill = record {
  first_chan = chan_entries drill 0;
  second_chan = chan_entries drill 1;
  each_user = user_entries drill;
}

-- so many entries can be added up
abbrev pub IsCounted : DrillCounts → Type 0
IsCounted counts = (counts.first_chan < 2 ^ 32) × (counts.second_chan < 2 ^ 32) × (counts.each_user < 2 ^ 32)
