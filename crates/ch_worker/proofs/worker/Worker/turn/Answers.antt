use Rattle.std.proofs.Common.{◌<◌, ◌^◌, ap, sym, subst, ◌∙◌, arith}
use Rattle.ch_clients.proofs.Losing.{desk_stays}
use Rattle.ch_clients.specs.Answers.{stronger}
use Rattle.ch_clients.specs.Clients.{ClientsView}
use Rattle.ch_desk.specs.Views.{IsDeskOf}
use Rattle.ch_worker.proofs.Counts.{one_more}
use Rattle.ch_worker.proofs.Turning.{room_is, turn_takes}
use Rattle.ch_worker.specs.Turns.{Course, LetsIn, Moment, TakesCourse, room_left}
use Rattle.ch_worker.specs.Workers.{WorkerView}
use Rattle.ch_worker.proofs.worker.Worker.turn.Goals as goal

pub lose-left-requires-clause-desk : goal.lose-left-requires-clause-desk
lose-left-requires-clause-desk g c =
    let d = g.D.Desk.view c.args.desk.now in
    let e = g.D.Desk.view c.take_all-taken.new.desk in
    let config = ap (λ (x : ClientsView). x.config) c.take_all-taken.ensures.takes.1.handed in
    subst (λ k. IsDeskOf k e) (sym (config ∙ ap (λ (w : WorkerView). w.clients.config) c.self.view_is))
    (desk_stays c.args.self.now.clients.config d e c.take_all-taken.ensures.same c.requires.desk)

pub returns-clause-turn : goal.returns-clause-turn
returns-clause-turn g c =
    let inside = c.self.inside in
    let later = c.self-2.inside in
    let taking = c.take_all-taken.ensures.takes in
    let losing = c.lose-left.ensures in
    let coming = c.let_in-arrived.ensures in
    let serving = c.serve-served.ensures.turns in
    let m : Moment = record { now = c.args.now; messages = g.L.Link.messages } in
    let course : Course = record {
      takes = taking.0;
      lefts = losing.losses.0;
      newcomer = coming.0;
      turns = serving.0;
      desk_taken = g.D.Desk.view c.take_all-taken.new.desk;
      desk_lost = g.D.Desk.view c.lose-left.new.desk;
    } in
    let old : WorkerView = record { clients = inside.clients; turns = inside.turns; taken = inside.taken } in
    let new : WorkerView = record { clients = c.serve-served.new.self; turns = later.turns; taken = later.taken } in
    let small : inside.turns < 2 ^ 64 = omega arith in
    let takes = turn_takes m course old new (g.D.Desk.view c.args.desk.now) (g.D.Desk.view c.serve-served.new.desk)
    c.take_all-taken.new.clients c.lose-left.new.self later.clients
    c.take_all-taken.result c.lose-left.result c.let_in-arrived.result c.serve-served.result c.and-3.result
    taking.1 losing.losses.1 losing.same
    (ap (λ (w : WorkerView). w.clients) c.self-2.view_is ∙ coming.2.clients) coming.3 serving.1
    (ap (λ (w : WorkerView). w.turns) c.self-2.view_is ∙ coming.2.turns ∙ one_more inside.turns c.saturating_add-self-inside.result small c.saturating_add-self-inside.ensures)
    (ap (λ (w : WorkerView). w.taken) c.self-2.view_is ∙ coming.2.taken)
    (c.and-3.ensures ∙ ap (λ p. stronger p c.serve-served.result) (c.and-2.ensures ∙ ap (λ p. stronger p c.let_in-arrived.result) c.and.ensures)) in
    let room = room_is course old c.take_all-taken.new.clients c.lose-left.new.self taking.1.handed losing.same losing.losses.1.stay in (
      course,
      subst (λ (w : WorkerView). TakesCourse m course (record { worker = w; desk = g.D.Desk.view c.args.desk.now }) (record { worker = new; desk = g.D.Desk.view c.serve-served.new.desk }) c.and-3.result)
          c.self.view_is takes,
      subst (λ (w : WorkerView). LetsIn g.L.Link.told c.args.now (room_left course w) course.newcomer (g.A.Arrivals.told c.args.arrivals.now) (g.A.Arrivals.told c.let_in-arrived.new.arrivals))
          c.self.view_is
          (subst (λ b. LetsIn g.L.Link.told c.args.now b course.newcomer (g.A.Arrivals.told c.args.arrivals.now) (g.A.Arrivals.told c.let_in-arrived.new.arrivals)) room coming.1),
    )
