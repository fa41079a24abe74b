use Rattle.std.proofs.Common.{◌∙◌, ℕ, List, [], ◌∷◌, ◌++◌, sym, ap, arith}
use Rattle.std.proofs.lemmas.List.FromFn.{map-range_with_len_more}
use Rattle.ch_base.specs.declared.channel.ChanCall.TheVariants.{Names}
use Rattle.ch_protocol.specs.declared.ask.Ask.{Ask}
use Rattle.ch_protocol.specs.declared.ask.Ask.TheVariants.{Chan}
use Rattle.ch_api.proofs.lookups.names_asks.Goals as goal

pub loop-shard-preserved : goal.loop-shard-preserved
loop-shard-preserved c =
    let shard = c.loop-shard.shard in
    let asks = c.loop-shard.asks in
    let f = λ (k : ℕ). Chan k (Names c.args.prefix.now) in
    c.in_ok-push.ensures.ok
    ∙ ap (λ (prefix : List ℕ). asks ++ Chan shard (Names prefix) ∷ []) c.in_ok-prefix.ensures
    ∙ ap (λ (before : List Ask). before ++ f shard ∷ []) c.loop-shard.invariant
    ∙ sym (map-range_with_len_more f 0 shard shard (omega arith))
