use Rattle.ch_protocol.proofs.Computed as shown
use Rattle.ch_protocol.proofs.examples.target_examples_hold.Goals as goal

pub returns : goal.returns
returns c = shown.target_examples
