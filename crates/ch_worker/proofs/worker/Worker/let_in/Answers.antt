use Rattle.std.proofs.Common.{◌≡◌, ◌<◌, ◌^◌, true, Some, ap, sym, subst, refl, ◌∙◌, arith, rules}
use Rattle.ch_clients.specs.Clients.{ClientsView, has_room, newcomer}
use Rattle.ch_worker.proofs.Turning.{comes_in, lets_one_in}
use Rattle.ch_worker.specs.Turns.{LetsClientIn}
use Rattle.ch_worker.specs.Workers.{WorkerView}
use Rattle.ch_worker.proofs.worker.Worker.let_in.Goals as goal

pub returns-in-Some : goal.returns-in-Some
returns-in-Some g c =
    let inside = c.self.inside in
    let a = c.in-Some.arrival in
    let client = newcomer g.L.Link.told c.args.now a in
    let old : WorkerView = record { clients = inside.clients; turns = inside.turns; taken = inside.taken } in
    let new : WorkerView = record { clients = c.let_in.new.self; turns = inside.turns; taken = c.saturating_add-self-inside.result } in
    let small : inside.taken < 2 ^ 64 = omega arith in
    let room : has_room inside.clients ≡ true = search rules in (
      Some client,
      comes_in g.L.Link.told c.args.now (has_room c.args.self.now.clients) a client (g.A.Arrivals.told c.args.arrivals.now) (g.A.Arrivals.told c.next.new.self)
          (sym (ap (λ (w : WorkerView). has_room w.clients) c.self.view_is) ∙ room) refl c.in-Some.ensures.left,
      subst (λ (w : WorkerView). LetsClientIn (Some client) w new) c.self.view_is
          (lets_one_in client old new c.saturating_add-self-inside.result small c.saturating_add-self-inside.ensures
          (ap (λ (x : ClientsView). let w : WorkerView = record { clients = x; turns = inside.turns; taken = c.saturating_add-self-inside.result } in w) c.let_in.ensures)),
      refl,
    )
