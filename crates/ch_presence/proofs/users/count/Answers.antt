use Rattle.std.proofs.Common.{◌≡◌, ◌∙◌, ◌+◌, suc, ap, sym, map, slice_get, List, ℕ, arith, Some}
use Rattle.std.specs.Option.{option_copied}
use Rattle.ch_history.proofs.Ascending.{IsAscending-ascending}
use Rattle.ch_presence.specs.Members.{members_on, ids_on}
use Rattle.ch_presence.proofs.Counted.{users_within, none_at}
use Rattle.ch_presence.proofs.LeastId.{first_id, id_next, within}
use Rattle.ch_presence.proofs.users.count.Goals as goal

pub loop-place-init : goal.loop-place-init
loop-place-init c = (c.next_id-id.ensures ∙ first_id (ids_on c.args.index.now c.args.channel.now), omega arith)

pub loop-place-preserved : goal.loop-place-preserved
loop-place-preserved c =
    let ys : List (List ℕ) = ids_on c.args.index.now c.args.channel.now in
    let at = c.loop-place.place in
    let x = c.in-Some.last.now in
    let there : slice_get ys at ≡ Some x = sym c.loop-place.invariant.0 ∙ ap option_copied c.in-Some.is in
    let more : suc at ≡ at + 1 = omega arith in
    let inside = within ys at x there in
    (c.next_id-id-in-Some.ensures ∙ id_next ys at x (IsAscending-ascending (map (λ m. m.user_id) (members_on c.args.index.now c.args.channel.now))) there ∙ ap (slice_get ys) more, omega (arith, inside))

pub returns-in-None : goal.returns-in-None
returns-in-None c =
    let ys : List (List ℕ) = ids_on c.args.index.now c.args.channel.now in
    let end = none_at ys c.loop-place.place (sym c.loop-place.invariant.0 ∙ ap option_copied c.in-None.is) in
    omega (arith, end, c.loop-place.invariant.1)

pub returns : goal.returns
returns c =
    let within = users_within c.args.index.now c.args.channel.now in
    omega (arith, within, c.loop-place.invariant.1, c.loop-place-test.false, c.count-rows.ensures)
