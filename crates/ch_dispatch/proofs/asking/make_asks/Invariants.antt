use Rattle.std.proofs.Common.{◌≡◌}
use Rattle.ch_dispatch.proofs.AskSteps.{Carries}
use Rattle.ch_dispatch.proofs.asking.make_asks.Given as goal

abbrev pub invariant-loop-ask : goal.invariant-loop-ask
invariant-loop-ask g l =
    (l.place ≡ l.ask-index) × Carries l.now l.asks (record { session = l.fn.session; desk = g.D.Desk.view l.fn.desk }) l.place
    (record { session = l.session; desk = g.D.Desk.view l.desk }) l.response
