use Rattle.std.proofs.Common.{◌&&◌, ◌∙◌, ℕ, List, Bool, not, length, nat_le, ap}
use Rattle.ch_history.specs.declared.limits.TheConstants.{MAX_USERS}
use Rattle.ch_presence.specs.Members.{ids_on}
use Rattle.ch_shard.proofs.joining.is_full_for.Goals as goal

-- whether the ids are full for a user, by whether the user is among them
abbrev is_full : List (List ℕ) → Bool → Bool
is_full ids is_on = not is_on && nat_le MAX_USERS (length ids)

pub returns-then-not-has : goal.returns-then-not-has
returns-then-not-has c =
    let ids = ids_on c.args.presence.now.rows c.args.channel.now in
    ap (λ n. nat_le MAX_USERS n) c.count.ensures ∙ ap (is_full ids) c.if-not-has.ensures

pub returns-else-not-has : goal.returns-else-not-has
returns-else-not-has c =
    let ids = ids_on c.args.presence.now.rows c.args.channel.now in
    ap not c.if-not-has.false ∙ ap (is_full ids) c.if-not-has.ensures
