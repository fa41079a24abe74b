use Rattle.std.proofs.Common.{◌≡◌, bytes_eq, find}
use Rattle.ch_presence.specs.Members.{present_on}
use Rattle.ch_presence.proofs.rows.first_of.Given as goal

abbrev pub invariant-walk : goal.invariant-walk
invariant-walk l =
    goal.iterator-walk.can_next l.walk × goal.iterator-walk.is_finite l.walk
    × (find (λ r. bytes_eq r.member.user_id l.user_id) l.walk ≡ find (λ r. bytes_eq r.member.user_id l.user_id) (present_on l.index l.channel))
