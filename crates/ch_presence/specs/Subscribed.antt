-- The rows of the open subscriptions: their users are the users of the history's definitions, and they change as the subscriptions do.
use Rattle.std.specs.Prelude.{◌≡◌, ℕ, true, false, not, ◌&&◌, ◌==◌, List, [], ◌∷◌, ◌++◌, bytes_eq, Option, All, filter, filter_map, option_map}
use Rattle.ch_history.specs.declared.rows.Subscription.{Subscription}
use Rattle.ch_history.specs.ChannelName.{is_presence}
use Rattle.ch_history.specs.Subscriptions.{on_channel, is_on}
use Rattle.ch_history.specs.Presence.{members_in, users_in, rows_in, user_in}
use Rattle.ch_history.specs.WellFormed.{IsMemberOf}
use Rattle.ch_presence.specs.declared.present.Present.{Present}
use Rattle.ch_presence.specs.Members.{present, members_on, ids_on, rows_on, is_present, user_of, without, without_all, with_newcomer}

-- the row of a subscription that has a member
abbrev pub row_of : Subscription → Option Present
row_of s = option_map (λ m. present s.channel s.socket m) s.member

-- the rows of the subscriptions that have a member
abbrev pub rows_of : List Subscription → List Present
rows_of xs = filter_map row_of xs

-- the subscription has a member exactly where its channel is a presence channel
abbrev pub HasMember : Subscription → Type 0
HasMember s = IsMemberOf (is_presence s.channel) s.member

-- on a presence channel the users of the rows are those of the subscriptions
pub record SameUsers (xs : List Subscription) (c : List ℕ) : Type 0 where
  pub members : members_on (rows_of xs) c ≡ members_in (on_channel xs c)
  pub ids : is_presence c ≡ true → ids_on (rows_of xs) c ≡ users_in c (on_channel xs c)
  pub rows : is_presence c ≡ true → rows_on (rows_of xs) c ≡ rows_in c (on_channel xs c)
  pub user : (socket : ℕ) → is_presence c ≡ true → All HasMember xs → user_of (rows_of xs) c socket ≡ user_in (on_channel xs c) socket
  pub absent : (socket : ℕ) → is_on xs socket c ≡ false → is_present (rows_of xs) c socket ≡ false

-- of any subscriptions and any channel
abbrev pub UsersLaw : Type 0
UsersLaw = (xs : List Subscription) (c : List ℕ) → SameUsers xs c

-- one more subscription brings its row, and what ends the subscriptions ends the rows
pub record SameChanges (xs : List Subscription) : Type 0 where
  pub join : (s : Subscription) → rows_of (xs ++ s ∷ []) ≡ with_newcomer (rows_of xs) (row_of s)
  pub leave : (c : List ℕ) (socket : ℕ) → rows_of (filter (λ s. not ((s.socket == socket) && bytes_eq s.channel c)) xs) ≡ without (rows_of xs) c socket
  pub lost : (socket : ℕ) → rows_of (filter (λ s. not (s.socket == socket)) xs) ≡ without_all (rows_of xs) socket

-- of any subscriptions
abbrev pub ChangesLaw : Type 0
ChangesLaw = (xs : List Subscription) → SameChanges xs
