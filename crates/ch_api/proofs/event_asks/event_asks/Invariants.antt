use Rattle.std.proofs.Common.{◌≡◌, take}
use Rattle.ch_requests.specs.Plans.{event_asks}
use Rattle.ch_api.proofs.event_asks.event_asks.Given as goal

abbrev pub invariant-loop-trigger : goal.invariant-loop-trigger
invariant-loop-trigger l = l.asks ≡ event_asks l.config l.start l.now (take l.trigger-index l.triggers)
