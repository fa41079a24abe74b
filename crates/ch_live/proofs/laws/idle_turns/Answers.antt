use Rattle.ch_live.proofs.TurnLaws.{idle_turns}
use Rattle.ch_live.proofs.laws.idle_turns.Goals as goal

pub returns : goal.returns
returns c = idle_turns
