use Rattle.ch_intake.proofs.OrderSteps.{legal_in_order}
use Rattle.ch_intake.proofs.laws.items_come_out_in_order.Goals as goal

pub returns : goal.returns
returns g c = legal_in_order
