use Rattle.std.proofs.Common.{◌≤◌, ap, sym, subst, refl, ◌∙◌, length, arith}
use Rattle.ch_clients.proofs.Serving.{Serving, turns_begin, turns_end, turns_fall_in, turns_go_on_in}
use Rattle.ch_clients.specs.Clients.{AreAscending, ClientsView}
use Rattle.ch_clients.specs.Serving.{Setting, setting_of}
use Rattle.ch_clients.specs.declared.answer.WorkerTurn.TheVariants.{Idle}
use Rattle.ch_clients.specs.declared.server.Server.{Server}
use Rattle.ch_desk.specs.Views.{IsDeskOf}
use Rattle.ch_clients.proofs.clients.Clients.serve.Goals as goal

pub loop-place-init : goal.loop-place-init
loop-place-init g c =
    let inside = c.self.inside in
    let desk = g.D.Desk.view c.args.desk.now in (
      refl,
      subst (λ (v : ClientsView). IsDeskOf v.config desk
          → Serving (setting_of v c.args.now g.L.Link.messages) (record { connected = v.connected; leaving = v.leaving })
          (record { connected = inside.lists.connected; leaving = inside.lists.leaving }) desk desk 0 Idle) c.self.view_is
          (λ shards. turns_begin (record { config = inside.server.config; start = inside.server.start; now = c.args.now; messages = g.L.Link.messages })
          (record { connected = inside.lists.connected; leaving = inside.lists.leaving }) desk c.self.invariant.clients c.self.invariant.leaving c.self.invariant.room shards)
          c.requires.desk,
    )

pub loop-place-preserved : goal.loop-place-preserved
loop-place-preserved g c =
    let l = c.loop-place in
    let e = c.serve-next.ensures in
    let s : Setting = setting_of c.args.self.now c.args.now g.L.Link.messages in
    let told = λ (v : Server). let u : Setting = record { config = v.config; start = v.start; now = c.args.now; messages = g.L.Link.messages } in u in
    let same = ap told l.invariant.0 ∙ ap (λ (v : ClientsView). setting_of v c.args.now g.L.Link.messages) c.self.view_is in (
      l.invariant.0,
      subst (λ p. Serving s (record { connected = c.args.self.now.connected; leaving = c.args.self.now.leaving })
          (record { connected = c.serve-next.new.self.connected; leaving = c.serve-next.new.self.leaving })
          (g.D.Desk.view c.args.desk.now) (g.D.Desk.view c.serve-next.new.desk) c.serve-next.result.place p) (sym c.and-part.ensures)
          (turns_go_on_in s (told l.self-inside.server) same (record { connected = c.args.self.now.connected; leaving = c.args.self.now.leaving })
          (record { connected = l.self-inside.lists.connected; leaving = l.self-inside.lists.leaving })
          (record { connected = c.serve-next.new.self.connected; leaving = c.serve-next.new.self.leaving })
          (g.D.Desk.view c.args.desk.now) (g.D.Desk.view l.desk) (g.D.Desk.view c.serve-next.new.desk) l.place l.part e.turn.0 c.serve-next.result l.invariant.1
          e.turn.1 e.turn.2 e.may e.over e.shards),
    )

pub loop-place-smaller : goal.loop-place-smaller
loop-place-smaller g c =
    let l = c.loop-place in
    let e = c.serve-next.ensures in
    let s : Setting = setting_of c.args.self.now c.args.now g.L.Link.messages in
    let told = λ (v : Server). let u : Setting = record { config = v.config; start = v.start; now = c.args.now; messages = g.L.Link.messages } in u in
    let same = ap told l.invariant.0 ∙ ap (λ (v : ClientsView). setting_of v c.args.now g.L.Link.messages) c.self.view_is in
    turns_fall_in s (told l.self-inside.server) same (record { connected = c.args.self.now.connected; leaving = c.args.self.now.leaving })
    (record { connected = l.self-inside.lists.connected; leaving = l.self-inside.lists.leaving })
    (record { connected = c.serve-next.new.self.connected; leaving = c.serve-next.new.self.leaving })
    (g.D.Desk.view c.args.desk.now) (g.D.Desk.view l.desk) (g.D.Desk.view c.serve-next.new.desk) l.place l.part e.turn.0 c.serve-next.result l.invariant.1 e.turn.1

pub returns-clause-turns : goal.returns-clause-turns
returns-clause-turns g c =
    let l = c.loop-place in
    let lists = l.self-inside.lists in
    let over : length lists.connected ≤ l.place = omega (arith, c.len.ensures, c.loop-place-test.false) in
    turns_end (setting_of c.args.self.now c.args.now g.L.Link.messages) c.args.self.now
    (record { config = l.self-inside.server.config; start = l.self-inside.server.start; connected = lists.connected; leaving = lists.leaving })
    (record { connected = lists.connected; leaving = lists.leaving })
    (g.D.Desk.view c.args.desk.now) (g.D.Desk.view l.desk) l.place l.part l.invariant.1 over
    (subst (λ (v : ClientsView). AreAscending v.connected) c.self.view_is c.ascend.ensures)
    (ap (λ (v : Server). let w : ClientsView = record { config = v.config; start = v.start; connected = lists.connected; leaving = lists.leaving } in w) l.invariant.0
    ∙ ap (λ (v : ClientsView). let w : ClientsView = record v { connected = lists.connected; leaving = lists.leaving } in w) c.self.view_is)
