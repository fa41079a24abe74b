use Rattle.std.proofs.Common.{◌≡◌, take}
use Rattle.ch_requests.specs.Plans.{counted}
use Rattle.ch_api.proofs.counts.counted.Given as goal

abbrev pub invariant-loop-trigger : goal.invariant-loop-trigger
invariant-loop-trigger l = l.list ≡ counted (take l.trigger-index l.triggers)
