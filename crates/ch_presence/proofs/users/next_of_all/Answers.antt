use Rattle.std.proofs.Common.{◌∙◌, ap, sym, find}
use Rattle.std.specs.Option.{option_copied}
use Rattle.ch_presence.specs.Members.{members_on}
use Rattle.ch_presence.specs.Users.{is_above, least_with, with_member, users_of}
use Rattle.ch_presence.proofs.LeastId.{least_more}
use Rattle.ch_presence.proofs.users.next_of_all.Goals as goal

pub returns-in-Some : goal.returns-in-Some
returns-in-Some c =
    let ms = members_on c.args.index.now c.args.channel.now in
    let m = c.in-Some.newcomer.now in
    let after = option_copied c.args.after in
    c.least_with.ensures
    ∙ ap (λ o. least_with after o m.user_id) c.next_id-least.ensures
    ∙ sym (least_more after ms m)
    ∙ ap (λ o. find (is_above after) (users_of (with_member ms (option_copied o)))) (sym c.in-Some.is)
