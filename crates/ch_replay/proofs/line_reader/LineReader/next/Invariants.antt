use Rattle.std.proofs.Common.{◌≤◌}
use Rattle.ch_replay.proofs.Reading.{Held}
use Rattle.ch_replay.proofs.line_reader.LineReader.next.Given as goal

abbrev pub invariant-pieces : goal.invariant-pieces
invariant-pieces g l = record {
  held : Held (g.S.Source.left l.fn.source) (g.S.Source.left l.source) (g.S.Source.limit l.fn.source) (g.S.Source.limit l.source) l.fn.self l.line.items l.self;
  later : g.S.Source.faults l.fn.source ≤ g.S.Source.faults l.source;
}

abbrev pub decreases-pieces : goal.decreases-pieces
decreases-pieces g l = g.S.Source.limit l.source
