use Rattle.std.proofs.Common.{◌≡◌, ◌++◌, map, take}
use Rattle.ch_requests.specs.Plans.{event_ask}
use Rattle.ch_api.proofs.event_asks.push_asks.Given as goal

abbrev pub invariant-loop-channel : goal.invariant-loop-channel
invariant-loop-channel l = l.asks ≡ l.initial.asks ++ map (event_ask l.config l.start l.now l.trigger) (take l.channel-index l.channel-items)
