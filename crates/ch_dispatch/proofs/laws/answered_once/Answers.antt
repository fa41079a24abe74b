use Rattle.ch_dispatch.proofs.OneFrame.{answered_once}
use Rattle.ch_dispatch.proofs.laws.answered_once.Goals as goal

pub returns : goal.returns
returns c = answered_once
