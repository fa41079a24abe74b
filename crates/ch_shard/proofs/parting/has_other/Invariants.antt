use Rattle.std.proofs.Common.{◌≡◌, ◌==◌, not}
use Rattle.std.specs.List.{list_any}
use Rattle.ch_history.specs.Subscriptions.{on_channel}
use Rattle.ch_shard.proofs.parting.has_other.Given as goal

abbrev pub invariant-walk : goal.invariant-walk
invariant-walk l =
    goal.iterator-walk.can_next l.walk × goal.iterator-walk.is_finite l.walk
    × (list_any (λ s. not (s.socket == l.socket)) l.walk ≡ list_any (λ s. not (s.socket == l.socket)) (on_channel l.subs l.channel))
