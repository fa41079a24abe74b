use Rattle.ch_requests.proofs.Computed as shown
use Rattle.ch_requests.proofs.examples.plan_examples_hold.Goals as goal

pub returns-clause-events : goal.returns-clause-events
returns-clause-events c = shown.event_plans

pub returns-clause-queries : goal.returns-clause-queries
returns-clause-queries c = shown.query_plans
