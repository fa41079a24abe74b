use Rattle.std.proofs.Common.{◌≡◌, ◌-◌, ◌++◌, ◌∷◌, [], length, take}
use Rattle.ch_presence.specs.Members.{rows_on}
use Rattle.ch_shard.proofs.greeting.member_rows.Given as goal

abbrev pub invariant-loop-member : goal.invariant-loop-member
invariant-loop-member l = l.rows ≡ take (length l.rows) (rows_on (l.presence.rows ++ l.newcomer ∷ []) l.newcomer.channel)

abbrev pub decreases-loop-member : goal.decreases-loop-member
decreases-loop-member l = length (rows_on (l.presence.rows ++ l.newcomer ∷ []) l.newcomer.channel) - length l.rows
