use Rattle.std.proofs.Common.{subst, List, ℕ}
use Rattle.ch_io.specs.Counts.{Rose}
use Rattle.ch_io.specs.Writes.{WritesLast}
use Rattle.ch_io.proofs.LastLines.{WritesLast-from}
use Rattle.ch_io.proofs.sink.write_last.Goals as goal

pub returns-clause-names : goal.returns-clause-names
returns-clause-names g c =
    let P : List ℕ → Type 0 = λ z. WritesLast z (g.K.Sink.told c.args.sink.now) (g.K.Sink.told c.write_all.new.sink) (Rose (g.K.Sink.faults c.args.sink.now) (g.K.Sink.faults c.write_all.new.sink)) in
    subst P c.as_bytes.ensures.value (WritesLast-from c.as_bytes.result.now _ _ _ c.write_all.result c.write_all.ensures.ok c.write_all.ensures.err c.write_all.ensures.failed)
