use Rattle.std.proofs.Common.{length}
use Rattle.ch_pool.proofs.Passing.{Giving}
use Rattle.ch_pool.proofs.all_passes.give_passes.Given as goal

abbrev pub invariant-loop-one : goal.invariant-loop-one
invariant-loop-one l = Giving l.fn.passes.house l.passes l.taken.items

abbrev pub decreases-loop-one : goal.decreases-loop-one
decreases-loop-one l = length l.taken.items
