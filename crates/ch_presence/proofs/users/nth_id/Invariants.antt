use Rattle.std.proofs.Common.{◌≡◌, slice_get}
use Rattle.std.specs.Option.{option_copied}
use Rattle.ch_presence.specs.Members.{members_on}
use Rattle.ch_presence.specs.Users.{with_member, users_of}
use Rattle.ch_presence.proofs.users.nth_id.Given as goal

abbrev pub invariant-loop-place : goal.invariant-loop-place
invariant-loop-place l = option_copied l.id ≡ slice_get (users_of (with_member (members_on l.index l.channel) (option_copied l.newcomer))) l.place
