use Rattle.std.proofs.Common.{rules}
use Rattle.ch_desk.proofs.Rows.{row_alone, row_legal}
use Rattle.ch_desk.proofs.row.Row.count.Goals as goal

pub returns-clause-legal : goal.returns-clause-legal
returns-clause-legal g c =
    row_legal g.T.Served.place g.T.Served.stands g.T.Served.legal g.met.T.Served.stands_legal c.self.inside.seats.items c.args.self.now c.len.result c.self.invariant c.self.view_is (search rules)

pub returns-clause-alone : goal.returns-clause-alone
returns-clause-alone g c = row_alone c.self.inside.seats.items c.args.self.now c.self.view_is
