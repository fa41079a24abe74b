use Rattle.ch_transcript.proofs.Computed as shown
use Rattle.ch_transcript.proofs.examples.examples_hold.Goals as goal

pub returns-clause-lines : goal.returns-clause-lines
returns-clause-lines c = shown.lines

pub returns-clause-one_publish : goal.returns-clause-one_publish
returns-clause-one_publish c = shown.one_publish

pub returns-clause-excepted : goal.returns-clause-excepted
returns-clause-excepted c = shown.excepted
