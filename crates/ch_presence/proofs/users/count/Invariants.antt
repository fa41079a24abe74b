use Rattle.std.proofs.Common.{◌≡◌, ◌≤◌, length, slice_get}
use Rattle.std.specs.Option.{option_copied}
use Rattle.ch_presence.specs.Members.{ids_on}
use Rattle.ch_presence.proofs.users.count.Given as goal

abbrev pub invariant-loop-place : goal.invariant-loop-place
invariant-loop-place l = (option_copied l.id ≡ slice_get (ids_on l.index l.channel) l.place) × (l.place ≤ length (ids_on l.index l.channel))
