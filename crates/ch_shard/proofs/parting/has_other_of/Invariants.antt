use Rattle.std.proofs.Common.{◌≡◌, ◌==◌, ◌&&◌, not}
use Rattle.std.specs.List.{list_any}
use Rattle.ch_history.specs.Subscriptions.{on_channel}
use Rattle.ch_shard.specs.Parting.{is_user}
use Rattle.ch_shard.proofs.parting.has_other_of.Given as goal

abbrev pub invariant-walk : goal.invariant-walk
invariant-walk l =
    goal.iterator-walk.can_next l.walk × goal.iterator-walk.is_finite l.walk
    × (list_any (λ s. not (s.socket == l.socket) && is_user l.user_id s.member) l.walk ≡ list_any (λ s. not (s.socket == l.socket) && is_user l.user_id s.member) (on_channel l.subs l.channel))
