use Rattle.ch_pool.proofs.Passing.{Taking}
use Rattle.ch_pool.proofs.all_passes.take_passes.Given as goal

abbrev pub invariant-loop-caller : goal.invariant-loop-caller
invariant-loop-caller l = Taking l.fn.passes.house l.fn.passes.slots l.caller l.passes l.taken.items
