use Rattle.std.proofs.Common.{◌≡◌, ◌∙◌, [], Some, None, ap, sym, bytes_eq, find, option_map}
use Rattle.std.specs.Option.{option_copied, option_or}
use Rattle.ch_base.specs.declared.channel.Member.{Member}
use Rattle.ch_presence.specs.Members.{present_on, members_on}
use Rattle.ch_presence.specs.Users.{with_member}
use Rattle.ch_presence.proofs.FirstRow.{find-with_member}
use Rattle.ch_presence.proofs.NthUser.{find_members}
use Rattle.ch_presence.proofs.rows.first_member.Goals as goal

pub returns-in-Some : goal.returns-in-Some
returns-in-Some c =
    let id = c.args.user_id.now in
    let ms = members_on c.args.index.now c.args.channel.now in
    let rest = find (λ (m : Member). bytes_eq m.user_id id) (with_member [] (option_copied c.args.newcomer)) in
    let found : find (λ m. bytes_eq m.user_id id) ms ≡ Some c.in-Some.row.now.member =
    find_members id (present_on c.args.index.now c.args.channel.now) ∙ ap (option_map (λ r. r.member)) (sym c.first_of.ensures ∙ ap option_copied c.in-Some.is) in
    sym (find-with_member (λ m. bytes_eq m.user_id id) ms (option_copied c.args.newcomer) ∙ ap (λ o. option_or o rest) found)

pub returns-in-None : goal.returns-in-None
returns-in-None c =
    let id = c.args.user_id.now in
    let ms = members_on c.args.index.now c.args.channel.now in
    let rest = find (λ (m : Member). bytes_eq m.user_id id) (with_member [] (option_copied c.args.newcomer)) in
    let none : find (λ m. bytes_eq m.user_id id) ms ≡ None =
    find_members id (present_on c.args.index.now c.args.channel.now) ∙ ap (option_map (λ r. r.member)) (sym c.first_of.ensures ∙ ap option_copied c.in-None.is) in
    c.own.ensures ∙ sym (find-with_member (λ m. bytes_eq m.user_id id) ms (option_copied c.args.newcomer) ∙ ap (λ o. option_or o rest) none)
