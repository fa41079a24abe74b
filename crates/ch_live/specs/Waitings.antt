-- A frame that waits, as it is kept.
use Rattle.std.specs.Arc.{arc_value}
use Rattle.ch_base.specs.declared.frame.Frame.{Frame}
use Rattle.ch_live.specs.declared.waiting.Form.{Form}
use Rattle.ch_live.specs.declared.waiting.Form.TheVariants.{Alone, Shared}

-- the frame: the socket's alone, or one that others get too
abbrev pub frame_in : Form → Frame
frame_in (Alone frame) = frame
frame_in (Shared printed) = arc_value printed
