-- The users of a channel, one after another, by the channel's members in the order of joining.
use Rattle.std.specs.Prelude.{ℕ, Bool, true, ◌&&◌, List, [], ◌∷◌, ◌++◌, bytes_eq, find, filter_map, map, Option, Some, None, if◌then◌else◌}
use Rattle.ch_base.specs.declared.channel.Member.{Member}
use Rattle.ch_history.specs.Texts.{ascending, is_before}

-- the members, and then the newcomer, where there is one
abbrev pub with_member : List Member → Option Member → List Member
with_member ms None = ms
with_member ms (Some m) = ms ++ m ∷ []

-- the ids of the members' users, each once, ascending
abbrev pub users_of : List Member → List (List ℕ)
users_of ms = ascending (map (λ m. m.user_id) ms)

-- each user of the members, ascending by its id, with the info of its first one
abbrev pub infos_of : List Member → List Member
infos_of ms = filter_map (λ id. find (λ m. bytes_eq m.user_id id) ms) (users_of ms)

-- whether the id comes after the given one, where one is given
abbrev pub is_above : Option (List ℕ) → List ℕ → Bool
is_above None id = true
is_above (Some after) id = is_before after id

-- whether the id comes before the given one, where one is given
abbrev pub is_lower : List ℕ → Option (List ℕ) → Bool
is_lower id None = true
is_lower id (Some least) = is_before id least

-- the least id with this one, where that comes after the given one
abbrev pub least_with : Option (List ℕ) → Option (List ℕ) → List ℕ → Option (List ℕ)
least_with after least id = if is_above after id && is_lower id least then Some id else least
