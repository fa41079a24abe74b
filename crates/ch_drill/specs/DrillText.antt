-- What a drill prints.
use Rattle.std.specs.Prelude.{◌+◌, ◌*◌, ℕ, List, ◌++◌, codes}
use Rattle.std.specs.Fmt.{decimal}
use Rattle.ch_drill.specs.declared.words.Drill.{Drill}
use Rattle.ch_drill.specs.declared.counts.DrillCounts.{DrillCounts}
use Rattle.ch_drill.specs.DrillCounts.{drill_counts}

abbrev pub usage_line : List ℕ
usage_line = codes "usage: channelsd drill <workers> <rounds>\n"

-- the line of a shard of which nothing is left open
abbrev pub count_line : List ℕ → ℕ → ℕ → List ℕ
count_line kind shard entries = kind ++ codes " " ++ decimal shard ++ codes " " ++ decimal entries ++ codes " 0\n"

-- the line with the sum of all entries
abbrev pub total_line : ℕ → List ℕ
total_line total = codes "total " ++ decimal total ++ codes "\n"

-- a line for each channel shard and each user shard, ascending, and the sum
abbrev pub text_of : DrillCounts → List ℕ
text_of counts = count_line (codes "chan") 0 counts.first_chan ++ count_line (codes "chan") 1 counts.second_chan
    ++ count_line (codes "user") 0 counts.each_user ++ count_line (codes "user") 1 counts.each_user
    ++ total_line (counts.first_chan + counts.second_chan + 2 * counts.each_user)

-- what a drill prints
abbrev pub drill_text : Drill → List ℕ
drill_text drill = text_of (drill_counts drill)
