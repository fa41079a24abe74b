use Rattle.ch_exchange.proofs.Courses.{hears_some, hears_none, unread}
use Rattle.ch_exchange.proofs.exchange.read_on.Goals as goal

pub returns-in-Some-clause-course : goal.returns-in-Some-clause-course
returns-in-Some-clause-course g c =
    let w = g.L.Link.told c.args.link.now in
    let u = g.L.Link.told c.read_once.new.link in
    let r = c.write_on.result in
    hears_some c.args.serving.now c.args.reader c.in-Ok.count c.read_once.new.buffer w u (g.L.Link.told c.write_on.new.link) (g.D.Desk.view c.args.desk.now)
    (g.D.Desk.view c.hear.new.desk) c.in-Some.reply r.0 r.1 c.read_once.auto.buffer c.in-Ok.ensures c.in-Some.ensures.answers c.write_on.ensures

pub returns-in-None-clause-course : goal.returns-in-None-clause-course
returns-in-None-clause-course g c =
    hears_none c.args.serving.now c.args.reader c.in-Ok.count c.read_once.new.buffer (g.L.Link.told c.args.link.now) (g.L.Link.told c.read_once.new.link)
    (g.D.Desk.view c.args.desk.now) (g.D.Desk.view c.hear.new.desk) c.hear.new.reader c.moved_or_idle.result c.read_once.auto.buffer c.in-Ok.ensures
    c.in-None.ensures.answers (c.hear.ensures.reader c.in-None.is) c.moved_or_idle.ensures

pub returns-in-Err-clause-course : goal.returns-in-Err-clause-course
returns-in-Err-clause-course g c =
    unread c.args.serving.now c.args.reader c.read_once.new.buffer (g.L.Link.told c.args.link.now) (g.L.Link.told c.read_once.new.link)
    (g.D.Desk.view c.args.desk.now) c.in-Err.turn c.in-Err.ensures
