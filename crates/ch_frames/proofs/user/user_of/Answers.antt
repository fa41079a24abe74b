use Rattle.ch_frames.proofs.Watchlists.{user_good}
use Rattle.ch_frames.proofs.user.user_of.Goals as goal

pub returns-in-Some-clause-good : goal.returns-in-Some-clause-good
returns-in-Some-clause-good c = user_good c.args.user_data.now c.user_in.result c.user_in.ensures
