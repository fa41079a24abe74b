use Rattle.std.proofs.Common.{◌≡◌, false, take}
use Rattle.ch_transcript.specs.Lines.{has_byte}
use Rattle.ch_replay.proofs.line_reader.place_of.Given as goal

abbrev pub invariant-loop-i : goal.invariant-loop-i
invariant-loop-i l = has_byte l.byte (take l.i l.bytes) ≡ false
