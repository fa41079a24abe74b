use Rattle.std.proofs.Common.{◌<◌, ap, arith}
use Rattle.crossbeam_queue.specs.Passes.{view}
use Rattle.ch_intake.proofs.QueueSteps.{pushes, learns}
use Rattle.ch_intake.proofs.intake.Intake.push.Goals as goal

pub push_as-requires-clause-rule : goal.push_as-requires-clause-rule
push_as-requires-clause-rule g c =
    let is = c.pass.invariant.2 in
    let some_number : (view c.pass.inside.pass).low < (view c.pass.inside.pass).high = omega (arith, ap (λ v. v.low) is, ap (λ v. v.high) is) in
    rw c.self.invariant (pushes _ _ _ some_number, learns _ _ some_number)
