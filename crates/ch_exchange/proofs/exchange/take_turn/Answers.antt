use Rattle.std.proofs.Common.{sym, subst}
use Rattle.ch_exchange.specs.Hearing.{HasCourse}
use Rattle.ch_exchange.proofs.Courses.{writes_on}
use Rattle.ch_exchange.proofs.exchange.take_turn.Goals as goal

pub returns-in-Replying-clause-course : goal.returns-in-Replying-clause-course
returns-in-Replying-clause-course g c =
    let s = c.args.serving.now in
    let w = g.L.Link.told c.args.link.now in
    let v = g.L.Link.told c.write_on.new.link in
    let desk = g.D.Desk.view c.args.desk.now in
    let r = c.write_on.result in
    subst (λ x. HasCourse s x r.0 w v desk desk r.1) (sym c.in-Replying.is) (writes_on s c.in-Replying.reply w v desk r.0 r.1 c.write_on.ensures)
