use Rattle.std.proofs.Common.{◌≡◌, ◌∙◌, ◌+◌, suc, ap, sym, map, slice_get, List, ℕ, arith}
use Rattle.std.specs.Option.{option_copied}
use Rattle.ch_history.proofs.Ascending.{IsAscending-ascending}
use Rattle.ch_presence.specs.Members.{members_on}
use Rattle.ch_presence.specs.Users.{with_member, users_of}
use Rattle.ch_presence.proofs.LeastId.{first_id, id_next, none_later}
use Rattle.ch_presence.proofs.users.nth_id.Goals as goal

pub loop-place-init : goal.loop-place-init
loop-place-init c = c.next_of_all-id.ensures ∙ first_id (users_of (with_member (members_on c.args.index.now c.args.channel.now) (option_copied c.args.newcomer)))

pub loop-place-preserved : goal.loop-place-preserved
loop-place-preserved c =
    let ms = with_member (members_on c.args.index.now c.args.channel.now) (option_copied c.args.newcomer) in
    let ys : List (List ℕ) = users_of ms in
    let at = c.loop-place.place in
    let x = c.in-Some.last.now in
    let more : suc at ≡ at + 1 = omega arith in
    c.next_of_all-id-in-Some.ensures
    ∙ id_next ys at x (IsAscending-ascending (map (λ m. m.user_id) ms)) (sym c.loop-place.invariant ∙ ap option_copied c.in-Some.is)
    ∙ ap (slice_get ys) more

pub returns-in-None : goal.returns-in-None
returns-in-None c =
    let ys : List (List ℕ) = users_of (with_member (members_on c.args.index.now c.args.channel.now) (option_copied c.args.newcomer)) in
    sym (none_later ys c.loop-place.place c.args.at (omega arith) (sym c.loop-place.invariant ∙ ap option_copied c.in-None.is))
