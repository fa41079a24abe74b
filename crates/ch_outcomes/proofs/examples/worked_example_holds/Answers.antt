use Rattle.ch_outcomes.proofs.Worked as shown
use Rattle.ch_outcomes.proofs.examples.worked_example_holds.Goals as goal

pub returns : goal.returns
returns c = shown.worked_example
