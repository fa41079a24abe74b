use Rattle.std.proofs.Common.{nat_eq, arith}
use Rattle.std.proofs.lemmas.Bool.Decides.{nat_tests}
use Rattle.std.proofs.lemmas.List.Folds.{list_any_more}
use Rattle.ch_replay.proofs.line_reader.place_of.Goals as goal

pub loop-i-preserved : goal.loop-i-preserved
loop-i-preserved c = grind (arith, nat_tests, list_any_more (λ b. nat_eq b c.args.byte) c.args.bytes.now c.loop-i.i 0 c.loop-i-test.true, c.loop-i.invariant)
