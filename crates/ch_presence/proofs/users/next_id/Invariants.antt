use Rattle.std.proofs.Common.{◌≡◌, find}
use Rattle.std.specs.Option.{option_copied}
use Rattle.ch_presence.specs.Members.{ids_on}
use Rattle.ch_presence.specs.Users.{is_above}
use Rattle.ch_presence.proofs.LeastId.{least_from}
use Rattle.ch_presence.proofs.users.next_id.Given as goal

abbrev pub invariant-walk : goal.invariant-walk
invariant-walk l =
    goal.iterator-walk.can_next l.walk × goal.iterator-walk.is_finite l.walk
    × (least_from (option_copied l.after) (option_copied l.least) l.walk ≡ find (is_above (option_copied l.after)) (ids_on l.index l.channel))
