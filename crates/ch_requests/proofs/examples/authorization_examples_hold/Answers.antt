use Rattle.ch_requests.proofs.Computed as shown
use Rattle.ch_requests.proofs.examples.authorization_examples_hold.Goals as goal

pub returns : goal.returns
returns c = shown.authorization_examples
