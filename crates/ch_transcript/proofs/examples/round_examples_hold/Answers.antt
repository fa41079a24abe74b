use Rattle.ch_transcript.proofs.Computed as shown
use Rattle.ch_transcript.proofs.examples.round_examples_hold.Goals as goal

pub returns-clause-killed : goal.returns-clause-killed
returns-clause-killed c = shown.killed

pub returns-clause-ticks : goal.returns-clause-ticks
returns-clause-ticks c = shown.ticks

pub returns-clause-others : goal.returns-clause-others
returns-clause-others c = shown.others
