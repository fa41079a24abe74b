use Rattle.std.proofs.Common.{◌∙◌, ap, sym, bytes_eq, find, option_and_then}
use Rattle.std.specs.Option.{option_copied}
use Rattle.ch_presence.specs.Members.{members_on}
use Rattle.ch_presence.specs.Users.{with_member}
use Rattle.ch_presence.proofs.NthUser.{slice_get-infos_of}
use Rattle.ch_presence.proofs.users.nth_user.Goals as goal

pub returns : goal.returns
returns c =
    let ms = with_member (members_on c.args.index.now c.args.channel.now) (option_copied c.args.newcomer) in
    c.first_member.ensures
    ∙ sym (slice_get-infos_of ms c.args.at
    ∙ ap (option_and_then (λ id. find (λ m. bytes_eq m.user_id id) ms)) (sym c.nth_id.ensures ∙ ap option_copied c.in_ok-id.was))

pub returns-in_err-id : goal.returns-in_err-id
returns-in_err-id c =
    let ms = with_member (members_on c.args.index.now c.args.channel.now) (option_copied c.args.newcomer) in
    ap option_copied c.from_residual.ensures
    ∙ sym (slice_get-infos_of ms c.args.at
    ∙ ap (option_and_then (λ id. find (λ m. bytes_eq m.user_id id) ms)) (sym c.nth_id.ensures ∙ ap option_copied c.in_err-id.was))
