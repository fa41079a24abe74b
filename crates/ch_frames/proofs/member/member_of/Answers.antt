use Rattle.ch_frames.proofs.IdsOf.{member_good}
use Rattle.ch_frames.proofs.member.member_of.Goals as goal

pub returns-in-Some-clause-good : goal.returns-in-Some-clause-good
returns-in-Some-clause-good c = member_good c.args.channel_data.now c.member_in.result c.member_in.ensures
