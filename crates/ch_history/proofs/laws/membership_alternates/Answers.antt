use Rattle.ch_history.proofs.Membership.{membership_law}
use Rattle.ch_history.proofs.laws.membership_alternates.Goals as goal

pub returns : goal.returns
returns c = membership_law
