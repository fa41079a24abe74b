use Rattle.ch_names.proofs.Computed as shown
use Rattle.ch_names.proofs.examples.examples_hold.Goals as goal

pub returns : goal.returns
returns c = shown.socket_id_examples
