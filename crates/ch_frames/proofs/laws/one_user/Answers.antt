use Rattle.ch_frames.proofs.OneMeaning as meaning
use Rattle.ch_frames.proofs.laws.one_user.Goals as goal

pub returns : goal.returns
returns c = λ text a b h k. meaning.one_user text a b h k
