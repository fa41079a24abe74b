use Rattle.std.proofs.Common.{◌≡◌, ◌++◌, length}
use Rattle.ch_player.specs.Hooks.{emptied}
use Rattle.ch_player.proofs.HooksTaken.{lines}
use Rattle.ch_player.proofs.hooks.print_batches.Given as goal

abbrev pub invariant-loop-batch : goal.invariant-loop-batch
invariant-loop-batch l = record {
  text : l.out.items ++ lines l.batcher.state.waiting ≡ l.fn.out.items ++ lines l.fn.batcher.state.waiting;
  state : emptied l.batcher.state ≡ emptied l.fn.batcher.state;
}

abbrev pub decreases-loop-batch : goal.decreases-loop-batch
decreases-loop-batch l = length l.batcher.state.waiting
