-- Which users are on a presence channel (Pusher Channels documentation, Presence channels, "The channel's members").
use Rattle.std.specs.Prelude.{ℕ, Bool, List, [], ◌==◌, bytes_eq, Option, map, find, filter_map, option_map, option_and_then, if◌then◌else◌}
use Rattle.ch_base.specs.declared.channel.Member.{Member}
use Rattle.ch_history.specs.declared.rows.Subscription.{Subscription}
use Rattle.ch_history.specs.Entries.{ChanHistory}
use Rattle.ch_history.specs.Texts.{ascending, has_text}
use Rattle.ch_history.specs.ChannelName.{is_presence}
use Rattle.ch_history.specs.Subscriptions.{subs}

-- the members of a channel's subscriptions, in their order
abbrev pub members_in : List Subscription → List Member
members_in xs = filter_map (λ s. s.member) xs

-- the user ids of a channel's subscriptions, each once, ascending; none on a kind without members
abbrev pub users_in : List ℕ → List Subscription → List (List ℕ)
users_in c xs = if is_presence c then ascending (map (λ m. m.user_id) (members_in xs)) else []

-- whether the user is one of them
abbrev pub has_user : List ℕ → List Subscription → List ℕ → Bool
has_user c xs id = has_text (users_in c xs) id

-- each user, with the info of its first subscription
abbrev pub rows_in : List ℕ → List Subscription → List Member
rows_in c xs = filter_map (λ id. find (λ m. bytes_eq m.user_id id) (members_in xs)) (users_in c xs)

-- the user id of the socket's subscription, where it has a member
abbrev pub user_in : List Subscription → ℕ → Option (List ℕ)
user_in xs socket = option_map (λ m. m.user_id) (option_and_then (λ s. s.member) (find (λ s. s.socket == socket) xs))

-- the ids of the users of the channel c
abbrev pub users : ChanHistory → List ℕ → List (List ℕ)
users h c = users_in c (subs h c)

-- the users of the channel c, each with its info
abbrev pub user_rows : ChanHistory → List ℕ → List Member
user_rows h c = rows_in c (subs h c)
