use Rattle.std.proofs.Common.{sym, subst}
use Rattle.ch_clients.proofs.Visiting.{Visiting, visits_go_on}
use Rattle.ch_clients.proofs.leaving.Leaving.lose.Goals as goal

pub loop-place-preserved : goal.loop-place-preserved
loop-place-preserved g c =
    let l = c.loop-place in
    let e = c.lose_at-next.ensures in
    subst (λ p. Visiting c.args.server.now.config c.args.now c.args.self.now c.lose_at-next.new.self (g.D.Desk.view c.args.desk.now) (g.D.Desk.view c.lose_at-next.new.desk) c.lose_at-next.result.place p)
    (sym c.and-part.ensures)
    (visits_go_on c.args.server.now.config c.args.now c.args.self.now l.self c.lose_at-next.new.self (g.D.Desk.view c.args.desk.now) (g.D.Desk.view l.desk) (g.D.Desk.view c.lose_at-next.new.desk)
    l.place l.part e.visit.0 c.lose_at-next.result l.invariant e.visit.1 e.over e.shards)
