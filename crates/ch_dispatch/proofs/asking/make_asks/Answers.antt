use Rattle.std.proofs.Common.{◌+◌, ◌≤◌, length, refl, ap, sym, subst, ◌∙◌, drop, arith}
use Rattle.ch_session.specs.Waits.{Awaits}
use Rattle.ch_dispatch.proofs.AskSteps.{split_at, may_at, Carries-start, Carries-next, Responds-stop, Responds-all}
use Rattle.ch_dispatch.proofs.Tellings.{stops_so, goes_so}
use Rattle.ch_dispatch.proofs.asking.make_asks.Goals as goal

pub loop-ask-init : goal.loop-ask-init
loop-ask-init g c = (
  refl,
  Carries-start c.args.now c.args.asks.now (record { session = c.args.session.now; desk = g.D.Desk.view c.args.desk.now }) c.nothing-response.result
      c.nothing-response.ensures c.requires.waits,
)

pub make_ask-settled-requires-clause-ask : goal.make_ask-settled-requires-clause-ask
make_ask-settled-requires-clause-ask g c =
    let l = c.loop-ask in
    may_at c.args.asks.now c.as_slice-ask-items.result.now l.ask-index c.ask-item.result l.invariant.1.asked (g.D.Desk.view c.args.desk.now) (g.D.Desk.view l.desk)
    c.as_slice-ask-items.ensures c.loop-ask-test.true c.ask-item.is l.invariant.1.calls c.requires.asks

pub make_ask-settled-requires-clause-next : goal.make_ask-settled-requires-clause-next
make_ask-settled-requires-clause-next g c =
    let l = c.loop-ask in
    let split = split_at c.args.asks.now c.as_slice-ask-items.result.now l.place l.ask-index c.ask-item.result l.invariant.0 c.as_slice-ask-items.ensures c.loop-ask-test.true c.ask-item.is in
    (drop (l.place + 1) c.args.asks.now, subst (λ xs. Awaits l.session.waits l.place xs) split l.invariant.1.waits)

pub loop-ask-preserved : goal.loop-ask-preserved
loop-ask-preserved g c =
    let l = c.loop-ask in
    let split = split_at c.args.asks.now c.as_slice-ask-items.result.now l.place l.ask-index c.ask-item.result l.invariant.0 c.as_slice-ask-items.ensures c.loop-ask-test.true c.ask-item.is in (
      ap (λ n. n + 1) l.invariant.0,
      Carries-next c.args.now c.args.asks.now (record { session = c.args.session.now; desk = g.D.Desk.view c.args.desk.now }) l.place
          (record { session = l.session; desk = g.D.Desk.view l.desk }) l.response l.invariant.1 c.ask-item.result
          (record { session = c.make_ask-settled.new.session; desk = g.D.Desk.view c.make_ask-settled.new.desk }) c.make_ask-settled.result c.make_ask-settled.ensures
          split c.add.new.self c.add.ensures.adds (goes_so c.make_ask-settled.result (sym c.add.ensures.goes_on ∙ c.if-not-add.false)),
    )

pub returns-then-not-add : goal.returns-then-not-add
returns-then-not-add g c =
    let l = c.loop-ask in
    let split = split_at c.args.asks.now c.as_slice-ask-items.result.now l.place l.ask-index c.ask-item.result l.invariant.0 c.as_slice-ask-items.ensures c.loop-ask-test.true c.ask-item.is in
    Responds-stop c.args.now c.args.asks.now (record { session = c.args.session.now; desk = g.D.Desk.view c.args.desk.now }) l.place
    (record { session = l.session; desk = g.D.Desk.view l.desk }) l.response l.invariant.1 c.ask-item.result
    (record { session = c.make_ask-settled.new.session; desk = g.D.Desk.view c.make_ask-settled.new.desk }) c.make_ask-settled.result c.make_ask-settled.ensures
    split c.add.new.self c.add.ensures.adds (stops_so c.make_ask-settled.result (sym c.add.ensures.goes_on ∙ c.if-not-add.true))

pub returns : goal.returns
returns g c =
    let l = c.loop-ask in
    let past : length c.as_slice-ask-items.result.now ≤ l.place = omega (arith, c.loop-ask-test.false, l.invariant.0) in
    Responds-all c.args.now c.args.asks.now c.as_slice-ask-items.result.now (record { session = c.args.session.now; desk = g.D.Desk.view c.args.desk.now }) l.place
    (record { session = l.session; desk = g.D.Desk.view l.desk }) l.response l.invariant.1 c.as_slice-ask-items.ensures past
