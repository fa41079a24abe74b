use Rattle.std.proofs.Common.{drop, sym, ◌∙◌, ◌-◌, arith, string_bytes}
use Rattle.std.proofs.lemmas.Grind.{common_steps}
use Rattle.ch_soak.proofs.Lines.{given_on}
use Rattle.ch_soak.specs.Generator.{lines_from}
use Rattle.ch_soak.proofs.source.DrawnSource.read.Goals as goal

pub returns-clause-bytes : goal.returns-clause-bytes
returns-clause-bytes c =
    let s = c.refill.new.self in
    sym c.refill.ensures.left
    ∙ given_on c.min-n.result s.given (string_bytes s.line) c.copy_from_slice.new.self (drop c.min-n.result c.args.buf.now) (lines_from (s.lines - s.number) s.number s.state)
    (Prim.grind (arith, common_steps)) (Prim.grind (arith, common_steps))
