use Rattle.ch_intake.proofs.QueueSteps.{begins}
use Rattle.ch_intake.proofs.intake.Intake.new.Goals as goal

pub ruled-requires-clause-rule : goal.ruled-requires-clause-rule
ruled-requires-clause-rule g c = begins
