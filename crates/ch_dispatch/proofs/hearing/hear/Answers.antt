use Rattle.ch_session.specs.Judging.{asks_of}
use Rattle.ch_dispatch.proofs.Heeded.{hears_text, may_all, over_after, desk_after}
use Rattle.ch_dispatch.proofs.hearing.hear.Goals as goal

pub respond-requires-clause-asks : goal.respond-requires-clause-asks
respond-requires-clause-asks g c =
    may_all c.args.config.now (g.D.Desk.view c.args.desk.now) (asks_of c.hear-heard.result) c.requires.desk c.hear-heard.ensures.sound

pub returns-clause-hears : goal.returns-clause-hears
returns-clause-hears g c =
    let x = c.hear-heard.ensures in
    hears_text c.args.config.now c.args.now c.args.text.now (record { session = c.args.session.now; desk = g.D.Desk.view c.args.desk.now }) c.hear-heard.new.self
    (record { session = c.respond.new.session; desk = g.D.Desk.view c.respond.new.desk }) c.hear-heard.result c.respond.result
    x.judged x.awaits x.stands x.same c.respond.ensures

pub returns-clause-over : goal.returns-clause-over
returns-clause-over g c =
    over_after c.args.config.now c.args.now c.args.session.now c.hear-heard.new.self c.respond.new.session c.hear-heard.ensures.same c.respond.ensures.same c.respond.ensures.used c.requires.over

pub returns-clause-desk : goal.returns-clause-desk
returns-clause-desk g c =
    desk_after c.args.config.now c.respond.ensures.asked (g.D.Desk.view c.args.desk.now) (g.D.Desk.view c.respond.new.desk) c.respond.ensures.calls c.requires.desk
