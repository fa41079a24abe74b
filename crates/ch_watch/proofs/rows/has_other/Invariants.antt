use Rattle.std.proofs.Common.{◌≡◌, ◌==◌, not}
use Rattle.std.specs.List.{list_any}
use Rattle.ch_history.specs.SignIns.{of_user}
use Rattle.ch_watch.proofs.rows.has_other.Given as goal

abbrev pub invariant-walk : goal.invariant-walk
invariant-walk l =
    goal.iterator-walk.can_next l.walk × goal.iterator-walk.is_finite l.walk
    × (list_any (λ r. not (r.socket == l.socket)) l.walk ≡ list_any (λ r. not (r.socket == l.socket)) (of_user l.index l.user))
