use Rattle.std.proofs.Common.{◌≡◌, ◌++◌, take}
use Rattle.ch_script.proofs.ShardTails.{letters}
use Rattle.ch_script.proofs.tail_line.put_letters.Given as goal

abbrev pub invariant-loop-i : goal.invariant-loop-i
invariant-loop-i l = l.out.items ≡ l.fn.out.items ++ letters (take l.i l.shard.tail)
