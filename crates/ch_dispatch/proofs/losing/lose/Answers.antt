use Rattle.std.proofs.Common.{sym, refl, [], ◌∷◌}
use Rattle.ch_dispatch.proofs.LossSteps.{Losing-start, Losing-next, losses_stop, losses_all, next_may, over_still, owes_none}
use Rattle.ch_dispatch.proofs.losing.lose.Goals as goal

pub loop-ask-init : goal.loop-ask-init
loop-ask-init g c = Losing-start c.args.now c.args.session.now (g.D.Desk.view c.args.desk.now)

pub make_loss-requires : goal.make_loss-requires
make_loss-requires g c =
    let l = c.loop-ask in
    next_may c.args.now l.session (g.D.Desk.view l.desk) c.in-Some.ask c.requires.now
    (over_still c.args.session.now l.session l.invariant.asked (g.D.Desk.view c.args.desk.now) (g.D.Desk.view l.desk) l.invariant.losses.same l.invariant.losses.calls c.requires.over)
    c.in-Some.ensures.sound

pub loop-ask-preserved : goal.loop-ask-preserved
loop-ask-preserved g c =
    let l = c.loop-ask in
    let m = c.if-not-make_loss.ensures in
    Losing-next c.args.now c.args.session.now l.session c.loss_made.new.self (g.D.Desk.view c.args.desk.now) (g.D.Desk.view l.desk) (g.D.Desk.view c.make_loss.new.desk)
    c.in-Some.ask m.0 l.invariant c.in-Some.ensures.left m.3 m.2 (sym m.1) c.loss_made.ensures.made c.loss_made.ensures.same c.loss_made.ensures.stands

pub returns-then-not-make_loss-clause-losses : goal.returns-then-not-make_loss-clause-losses
returns-then-not-make_loss-clause-losses g c =
    let l = c.loop-ask in
    let m = c.if-not-make_loss.ensures in
    losses_stop c.args.now c.args.session.now l.session (g.D.Desk.view c.args.desk.now) (g.D.Desk.view l.desk) (g.D.Desk.view c.make_loss.new.desk) c.in-Some.ask m.0 tt
    l.invariant m.3 (sym m.1)

pub returns-then-not-make_loss-clause-over : goal.returns-then-not-make_loss-clause-over
returns-then-not-make_loss-clause-over g c =
    let l = c.loop-ask in
    let m = c.if-not-make_loss.ensures in
    over_still l.session l.session (record { ask = c.in-Some.ask; came = m.0 } ∷ []) (g.D.Desk.view l.desk) (g.D.Desk.view c.make_loss.new.desk) refl m.3
    (over_still c.args.session.now l.session l.invariant.asked (g.D.Desk.view c.args.desk.now) (g.D.Desk.view l.desk) l.invariant.losses.same l.invariant.losses.calls c.requires.over)

pub returns-clause-losses : goal.returns-clause-losses
returns-clause-losses g c =
    let l = c.loop-ask in
    losses_all c.args.now c.args.session.now l.session (g.D.Desk.view c.args.desk.now) (g.D.Desk.view l.desk) l.invariant c.in_default.ensures.left

pub returns-clause-all : goal.returns-clause-all
returns-clause-all g c = owes_none c.loop-ask.session c.in_default.ensures.next

pub returns-clause-over : goal.returns-clause-over
returns-clause-over g c =
    let l = c.loop-ask in
    over_still c.args.session.now l.session l.invariant.asked (g.D.Desk.view c.args.desk.now) (g.D.Desk.view l.desk) l.invariant.losses.same l.invariant.losses.calls c.requires.over
