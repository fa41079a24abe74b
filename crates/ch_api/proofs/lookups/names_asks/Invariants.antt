use Rattle.std.proofs.Common.{◌≡◌, map}
use Rattle.std.specs.List.{range_with_len}
use Rattle.ch_base.specs.declared.channel.ChanCall.TheVariants.{Names}
use Rattle.ch_protocol.specs.declared.ask.Ask.TheVariants.{Chan}
use Rattle.ch_api.proofs.lookups.names_asks.Given as goal

abbrev pub invariant-loop-shard : goal.invariant-loop-shard
invariant-loop-shard l = l.asks ≡ map (λ k. Chan k (Names l.prefix)) (range_with_len 0 l.shard)
