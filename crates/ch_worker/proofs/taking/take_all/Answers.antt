use Rattle.std.proofs.Common.{◌++◌, sym, subst}
use Rattle.ch_worker.proofs.Takings.{same_then, takes_then, users_same}
use Rattle.ch_worker.specs.Takes.{TakesEach}
use Rattle.ch_worker.specs.Taking.{chan_takes, each_take, user_takes}
use Rattle.ch_worker.proofs.taking.take_all.Goals as goal

pub returns-clause-takes : goal.returns-clause-takes
returns-clause-takes g c =
    let d = g.D.Desk.view c.args.desk.now in
    let e = g.D.Desk.view c.take_chans-chans.new.desk in
    let f = g.D.Desk.view c.take_users-users.new.desk in
    let chans = c.take_chans-chans.ensures.takes in
    let users = c.take_users-users.ensures.takes in (
      chans.0 ++ users.0,
      subst (λ p. TakesEach (each_take d) (chans.0 ++ users.0) c.args.clients.now c.take_users-users.new.clients d f p) (sym c.and.ensures)
          (takes_then (chan_takes d) (user_takes d) chans.0 users.0 c.args.clients.now c.take_chans-chans.new.clients c.take_users-users.new.clients d e f
          c.take_chans-chans.result c.take_users-users.result chans.1
          (users_same d e users.0 c.take_chans-chans.new.clients c.take_users-users.new.clients f c.take_users-users.result c.take_chans-chans.ensures.same users.1)),
    )

pub returns-clause-same : goal.returns-clause-same
returns-clause-same g c =
    same_then (g.D.Desk.view c.args.desk.now) (g.D.Desk.view c.take_chans-chans.new.desk) (g.D.Desk.view c.take_users-users.new.desk)
    c.take_chans-chans.ensures.same c.take_users-users.ensures.same
