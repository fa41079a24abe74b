use Rattle.ch_rate.proofs.Computed as shown
use Rattle.ch_rate.proofs.examples.examples_hold.Goals as goal

pub returns-clause-rates : goal.returns-clause-rates
returns-clause-rates c = shown.rate_examples

pub returns-clause-quiet : goal.returns-clause-quiet
returns-clause-quiet c = shown.quiet_examples
