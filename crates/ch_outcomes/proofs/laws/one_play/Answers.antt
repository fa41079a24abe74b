use Rattle.ch_outcomes.proofs.OneOutcome as outcome
use Rattle.ch_outcomes.proofs.laws.one_play.Goals as goal

pub returns : goal.returns
returns c = outcome.one_play
