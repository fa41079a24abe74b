use Rattle.ch_desk.proofs.Rows.{AreFresh}
use Rattle.ch_desk.proofs.row.Row.new.Given as goal

abbrev pub invariant-loop-k : goal.invariant-loop-k
invariant-loop-k g l = AreFresh g.T.Served.place g.T.Served.stands l.fn.n l.k l.seats.items
