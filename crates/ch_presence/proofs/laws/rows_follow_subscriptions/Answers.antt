use Rattle.ch_presence.proofs.SameChanges.{same_changes}
use Rattle.ch_presence.proofs.laws.rows_follow_subscriptions.Goals as goal

pub returns : goal.returns
returns c = same_changes
