use Rattle.std.proofs.Common.{ap, ◌∙◌, ◌∷◌, [], ◌++◌}
use Rattle.ch_desk.proofs.MakingSteps.{Begun-none, Begun-next, Begun-stop, split_at, May-at}
use Rattle.ch_protocol.specs.declared.ask.Made.{Made}
use Rattle.ch_desk.proofs.making.make_all.Goals as goal

pub loop-ask-init : goal.loop-ask-init
loop-ask-init g c =
    Begun-none c.args.asks.now c.new-answers.result (g.D.Desk.view c.args.desk.now) c.new-answers.ensures

pub make_answered-requires : goal.make_answered-requires
make_answered-requires g c =
    let l = c.loop-ask in
    May-at c.args.asks.now c.as_slice-ask-items.result.now l.ask-index c.ask-item.result l.invariant.asked
    (g.D.Desk.view c.args.desk.now) (g.D.Desk.view l.desk)
    c.as_slice-ask-items.ensures c.loop-ask-test.true c.ask-item.is l.invariant.calls c.requires

pub loop-ask-preserved : goal.loop-ask-preserved
loop-ask-preserved g c =
    let l = c.loop-ask in
    let made = c.in-Ok.ensures in
    Begun-next c.args.asks.now l.answers c.push.new.self l.ask-index
    (g.D.Desk.view c.args.desk.now) (g.D.Desk.view l.desk) (g.D.Desk.view c.make_answered.new.desk) c.ask-item.result made.0 l.invariant
    (split_at c.args.asks.now c.as_slice-ask-items.result.now l.ask-index c.ask-item.result c.as_slice-ask-items.ensures c.loop-ask-test.true c.ask-item.is)
    made.2 (c.in-Ok-push.ensures.ok ∙ ap (λ (m : Made). l.answers ++ m ∷ []) made.1.0) made.1.1

pub returns-in_default : goal.returns-in_default
returns-in_default g c =
    let l = c.loop-ask in
    let made = c.make_answered.ensures in
    Begun-stop c.args.asks.now l.answers l.ask-index (g.D.Desk.view c.args.desk.now) (g.D.Desk.view l.desk) (g.D.Desk.view c.make_answered.new.desk) c.ask-item.result made.0 l.invariant
    (split_at c.args.asks.now c.as_slice-ask-items.result.now l.ask-index c.ask-item.result c.as_slice-ask-items.ensures c.loop-ask-test.true c.ask-item.is) made.2

pub returns-in_default-push : goal.returns-in_default-push
returns-in_default-push g c =
    let l = c.loop-ask in
    let made = c.in-Ok.ensures in
    Begun-stop c.args.asks.now l.answers l.ask-index (g.D.Desk.view c.args.desk.now) (g.D.Desk.view l.desk) (g.D.Desk.view c.make_answered.new.desk) c.ask-item.result made.0 l.invariant
    (split_at c.args.asks.now c.as_slice-ask-items.result.now l.ask-index c.ask-item.result c.as_slice-ask-items.ensures c.loop-ask-test.true c.ask-item.is) made.2
