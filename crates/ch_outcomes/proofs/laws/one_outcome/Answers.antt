use Rattle.ch_outcomes.proofs.OneOutcome as outcome
use Rattle.ch_outcomes.proofs.laws.one_outcome.Goals as goal

pub returns : goal.returns
returns c = outcome.one_outcome
