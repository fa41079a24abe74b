-- What is done with an authorized request can be served.
use Rattle.std.proofs.Common.{◌≡◌, ℕ, List, sym, subst}
use Rattle.std.specs.Prelude.{Option, IfSome, Result, Ok, Err, IfOk}
use Rattle.ch_base.specs.declared.memory.Memory.{Memory}
use Rattle.ch_config.specs.Config.{IsConfig}
use Rattle.ch_config.specs.declared.config.Config.{Config}
use Rattle.ch_history.specs.Limits.{IsMoment}
use Rattle.ch_requests.specs.Fit.{AreFit}
use Rattle.ch_requests.specs.Plans.{planned_by}
use Rattle.ch_requests.specs.declared.plan.Planned.{Planned}
use Rattle.ch_requests.specs.declared.request.Request.{Request}
use Rattle.ch_requests.specs.declared.trigger.Trigger.{Trigger}
use Rattle.ch_api.specs.Servable.{AreServable}
use Rattle.ch_api.proofs.ServablePlans.{authorized_servable}

pub authorized_asks : (config : Config) (start now : ℕ) (q : Request) (ts : Option (List Trigger)) (r : Result Planned Memory) → IsConfig config → IsMoment now
    → IfSome ts AreFit → IfOk r (λ p. p ≡ planned_by config start q now ts q.route) → IfOk r (AreServable config)
authorized_asks config start now q ts (Err e) counts moment fit made = tt
authorized_asks config start now q ts (Ok p) counts moment fit made =
    subst (AreServable config) (sym made) (authorized_servable config start now q ts q.route counts moment fit)
