use Rattle.std.proofs.Common.{◌≡◌, take}
use Rattle.ch_presence.specs.Members.{ids_on}
use Rattle.ch_shard.proofs.looking.user_ids.Given as goal

abbrev pub invariant-loop-i : goal.invariant-loop-i
invariant-loop-i l = l.ids ≡ take l.i (ids_on l.presence.rows l.channel)
