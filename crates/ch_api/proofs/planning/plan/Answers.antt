use Rattle.std.proofs.Common.{◌≡◌, List, subst}
use Rattle.std.specs.Prelude.{Option, IfOk}
use Rattle.ch_requests.specs.Plans.{planned_by}
use Rattle.ch_requests.specs.declared.trigger.Trigger.{Trigger}
use Rattle.ch_api.proofs.PlannedRequests.{authorized_asks}
use Rattle.ch_api.proofs.planning.plan.Goals as goal

pub returns-clause-asks : goal.returns-clause-asks
returns-clause-asks c =
    let config = c.args.config.now in
    let start = c.args.start in
    let now = c.args.now in
    let request = c.args.request.now in
    let made = subst (λ (ts : Option (List Trigger)). IfOk c.plan_authorized.result (λ p. p ≡ planned_by config start request now ts request.route))
    c.as_ref.ensures.value c.plan_authorized.ensures in
    authorized_asks config start now request c.in_ok-triggers.triggers c.plan_authorized.result c.requires.config c.requires.moment
    c.in_ok-triggers.ensures.fit made
