use Rattle.ch_frames.proofs.PrintedObjects.{printed_object}
use Rattle.ch_frames.proofs.printed_law.printed_tells_event.Goals as goal

pub returns : goal.returns
returns c = λ frame start h. printed_object frame start h
