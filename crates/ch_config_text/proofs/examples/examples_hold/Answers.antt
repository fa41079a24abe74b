use Rattle.ch_config_text.proofs.Computed as shown
use Rattle.ch_config_text.proofs.examples.examples_hold.Goals as goal

pub returns-clause-whole : goal.returns-clause-whole
returns-clause-whole c = shown.whole_texts

pub returns-clause-faults : goal.returns-clause-faults
returns-clause-faults c = shown.faults

pub returns-clause-places : goal.returns-clause-places
returns-clause-places c = shown.places
