use Rattle.ch_io.proofs.Counting.{Rose-before, Rose-after, NeverFall-then, NeverFall-none, raised-then}
use Rattle.ch_io.proofs.laws.counts_add_up.Goals as goal

pub returns : goal.returns
returns c = record { rose_before = Rose-before; rose_after = Rose-after; never_fall = NeverFall-then; stay = NeverFall-none; raises = raised-then }
