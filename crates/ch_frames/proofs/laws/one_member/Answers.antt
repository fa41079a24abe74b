use Rattle.ch_frames.proofs.OneMeaning as meaning
use Rattle.ch_frames.proofs.laws.one_member.Goals as goal

pub returns : goal.returns
returns c = λ text a b h k. meaning.one_member text a b h k
