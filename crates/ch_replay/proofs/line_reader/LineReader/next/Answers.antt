use Rattle.std.proofs.Common.{arith}
use Rattle.ch_replay.proofs.Reading.{Held-part, Held-read}
use Rattle.ch_replay.proofs.line_reader.LineReader.next.Goals as goal

pub pieces-preserved : goal.pieces-preserved
pieces-preserved g c = record {
  held = Held-read (Held-part c.take_line.new.self c.in-Ok.field-0 c.in-Ok-false.field-0-test c.pieces.invariant.held c.in-Ok.ensures) c.refill.ensures.bytes c.refill.ensures.limit;
  later = omega (arith, c.refill.ensures.later);
}
