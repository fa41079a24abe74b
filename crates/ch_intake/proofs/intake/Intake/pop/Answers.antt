use Rattle.std.proofs.Common.{◌<◌, ap, arith}
use Rattle.crossbeam_queue.specs.Passes.{view}
use Rattle.ch_intake.proofs.QueueSteps.{pops, learns}
use Rattle.ch_intake.proofs.intake.Intake.pop.Goals as goal

pub pop_as-requires-clause-rule : goal.pop_as-requires-clause-rule
pop_as-requires-clause-rule g c =
    let is = c.pass.invariant.2 in
    let some_number : (view c.pass.inside.pass).low < (view c.pass.inside.pass).high = omega (arith, ap (λ v. v.low) is, ap (λ v. v.high) is) in
    (pops _ _ some_number, learns _ _ some_number)
