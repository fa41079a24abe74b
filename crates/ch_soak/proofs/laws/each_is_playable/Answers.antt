use Rattle.ch_soak.proofs.Playing.{playable}
use Rattle.ch_soak.proofs.laws.each_is_playable.Goals as goal

pub returns : goal.returns
returns c = playable
