use Rattle.ch_presence.proofs.SameUsers.{same_users}
use Rattle.ch_presence.proofs.laws.users_are_of_subscriptions.Goals as goal

pub returns : goal.returns
returns c = same_users
