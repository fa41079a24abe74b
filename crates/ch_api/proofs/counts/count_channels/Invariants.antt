use Rattle.std.proofs.Common.{◌≡◌, ◌++◌, map, take}
use Rattle.ch_api.specs.Telling.{counted_in}
use Rattle.ch_api.proofs.counts.count_channels.Given as goal

abbrev pub invariant-loop-channel : goal.invariant-loop-channel
invariant-loop-channel l = l.list ≡ l.initial.list ++ map (counted_in l.trigger) (take l.channel-index l.channel-items)
