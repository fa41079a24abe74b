-- Who is present on the channels, the oldest first, and what each call leaves of them (Pusher Channels documentation, Presence channels).
use Rattle.std.specs.Prelude.{ℕ, Bool, not, ◌&&◌, ◌==◌, List, [], ◌∷◌, ◌++◌, bytes_eq, Option, Some, None, find, filter, filter_map, map, option_map}
use Rattle.std.specs.List.{list_any}
use Rattle.ch_base.specs.declared.channel.Member.{Member}
use Rattle.ch_history.specs.Texts.{ascending}
use Rattle.ch_presence.specs.declared.present.Present.{Present}

-- who is present on the channels, the oldest first
pub record Roster : Type 0 where
  pub rows : List Present

-- the socket is on the channel c as this member
abbrev pub present : List ℕ → ℕ → Member → Present
present c socket member = record { channel = c; socket = socket; member = member }

-- those that are on the channel c
abbrev pub present_on : List Present → List ℕ → List Present
present_on rows c = filter (λ r. bytes_eq r.channel c) rows

-- the members of the channel c, one for each socket, in the order of joining
abbrev pub members_on : List Present → List ℕ → List Member
members_on rows c = map (λ r. r.member) (present_on rows c)

-- the ids of the users of the channel c, each once, ascending
abbrev pub ids_on : List Present → List ℕ → List (List ℕ)
ids_on rows c = ascending (map (λ m. m.user_id) (members_on rows c))

-- each user of the channel c, ascending by its id, with the info of its first row
abbrev pub rows_on : List Present → List ℕ → List Member
rows_on rows c = filter_map (λ id. find (λ m. bytes_eq m.user_id id) (members_on rows c)) (ids_on rows c)

-- whether this is the socket's row on the channel c
abbrev pub is_row_of : List ℕ → ℕ → Present → Bool
is_row_of c socket r = (r.socket == socket) && bytes_eq r.channel c

-- whether the socket is on the channel c
abbrev pub is_present : List Present → List ℕ → ℕ → Bool
is_present rows c socket = list_any (is_row_of c socket) rows

-- the member as which the socket is on the channel c
abbrev pub member_of : List Present → List ℕ → ℕ → Option Member
member_of rows c socket = option_map (λ r. r.member) (find (is_row_of c socket) rows)

-- the user as which the socket is on the channel c
abbrev pub user_of : List Present → List ℕ → ℕ → Option (List ℕ)
user_of rows c socket = option_map (λ m. m.user_id) (member_of rows c socket)

-- without the socket's row on the channel c
abbrev pub without : List Present → List ℕ → ℕ → List Present
without rows c socket = filter (λ r. not (is_row_of c socket r)) rows

-- without the socket's rows
abbrev pub without_all : List Present → ℕ → List Present
without_all rows socket = filter (λ r. not (r.socket == socket)) rows

-- the rows, and then the newcomer's, where there is one
abbrev pub with_newcomer : List Present → Option Present → List Present
with_newcomer rows None = rows
with_newcomer rows (Some r) = rows ++ r ∷ []
