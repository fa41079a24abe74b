use Rattle.std.proofs.Common.{◌∙◌, length, ap, sym}
use Rattle.ch_history.specs.Subscriptions.{subscriptions}
use Rattle.ch_shard.specs.ShardState.{ShardState}
use Rattle.ch_shard.proofs.OpenCounts.{open_total}
use Rattle.ch_shard.proofs.shard.ChanShard.open_subs.Goals as goal

pub returns-clause-history : goal.returns-clause-history
returns-clause-history c = λ h stands.
    c.open_subs.ensures ∙ ap (λ (k : ShardState). length k.parts.subs) c.self.view_is ∙ ap length stands.parts.subs ∙ sym (open_total (subscriptions h))
