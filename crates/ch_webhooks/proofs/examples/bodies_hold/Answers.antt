use Rattle.ch_webhooks.proofs.WorkedBodies.{bodies}
use Rattle.ch_webhooks.proofs.examples.bodies_hold.Goals as goal

pub returns : goal.returns
returns c = bodies
