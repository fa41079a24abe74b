use Rattle.std.proofs.Common.{◌≡◌, ◌==◌, ◌&&◌, not, bytes_eq}
use Rattle.std.specs.List.{list_any}
use Rattle.ch_presence.specs.Members.{present_on}
use Rattle.ch_presence.proofs.rows.is_another.Given as goal

abbrev pub invariant-walk : goal.invariant-walk
invariant-walk l =
    goal.iterator-walk.can_next l.walk × goal.iterator-walk.is_finite l.walk
    × (list_any (λ r. not (r.socket == l.socket) && bytes_eq r.member.user_id l.user_id) l.walk ≡ list_any (λ r. not (r.socket == l.socket) && bytes_eq r.member.user_id l.user_id) (present_on l.index l.channel))
