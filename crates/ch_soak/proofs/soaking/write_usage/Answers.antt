use Rattle.std.proofs.Common.{subst, List, ℕ}
use Rattle.ch_io.specs.Counts.{Rose}
use Rattle.ch_io.specs.Writes.{WritesLast}
use Rattle.ch_soak.proofs.soaking.write_usage.Goals as goal

pub returns : goal.returns
returns g c =
    let P : List ℕ → Type 0 = λ z. WritesLast z (g.K.Sink.told c.args.sink.now) (g.K.Sink.told c.write_last.new.sink) (Rose (g.K.Sink.faults c.args.sink.now) (g.K.Sink.faults c.write_last.new.sink)) in
    subst P c.usage_text.ensures c.write_last.ensures.names
