-- Which sockets are signed in as a user, and which watch whether it is online (Pusher Channels documentation,
-- "Authenticating users" and "Watchlist events").
use Rattle.std.specs.Prelude.{ℕ, Bool, true, false, not, ◌&&◌, ◌==◌, List, bytes_eq, Option, Some, None, filter, map, if◌then◌else◌}
use Rattle.std.specs.List.{list_any}
use Rattle.ch_base.specs.declared.user.UserCall.{UserCall}
use Rattle.ch_base.specs.declared.user.UserCall.TheVariants.{SignIn, Watch, Lost}
use Rattle.ch_base.specs.declared.user.UserAnswer.{UserAnswer}
use Rattle.ch_base.specs.declared.user.UserAnswer.TheVariants.{SignedIn, Watching}
use Rattle.ch_history.specs.declared.rows.UserSocket.{UserSocket}
use Rattle.ch_history.specs.Entries.{UserEntry, UserHistory}
use Rattle.ch_history.specs.OpenRows.{open_rows, rows_after, is_empty}
use Rattle.ch_history.specs.Texts.{ascending}

-- whether a SignIn is answered SignedIn
abbrev pub is_signed_in : UserAnswer → Bool
is_signed_in SignedIn = true
is_signed_in _ = false

-- whether a Watch is answered Watching
abbrev pub is_watching : UserAnswer → Bool
is_watching Watching = true
is_watching _ = false

-- the socket of a sign-in or a watch, and the caller that made it
abbrev pub user_socket : ℕ → ℕ → List ℕ → UserSocket
user_socket caller socket user = record { user = user; socket = socket; owner = caller }

-- Sign-ins

-- the sign-in that a SignIn asks for
abbrev pub sign_in_by : ℕ → UserCall → Option UserSocket
sign_in_by caller (SignIn socket user at) = Some (user_socket caller socket user)
sign_in_by caller _ = None

-- the sign-in that the entry makes: a SignIn that is answered SignedIn
abbrev pub signs_in : UserEntry → Option UserSocket
signs_in e = if is_signed_in e.answer then sign_in_by e.caller e.call else None

-- whether the call signs in anew, or loses the socket
abbrev pub is_sign_settled_by : UserSocket → UserAnswer → UserCall → Bool
is_sign_settled_by r answer (SignIn socket user at) = is_signed_in answer && (r.socket == socket) && bytes_eq r.user user
is_sign_settled_by r answer (Lost socket at) = r.socket == socket
is_sign_settled_by r answer _ = false

-- whether the entry is a later word on this sign-in
abbrev pub sign_settles : UserSocket → UserEntry → Bool
sign_settles r e = is_sign_settled_by r e.answer e.call

-- the sign-ins of all users that last, in their order
abbrev pub sign_ins : UserHistory → List UserSocket
sign_ins h = open_rows signs_in sign_settles h

-- those after one more entry
abbrev pub sign_ins_after : List UserSocket → UserEntry → List UserSocket
sign_ins_after xs e = rows_after signs_in sign_settles xs e

-- Watches

-- the watch that a Watch asks for
abbrev pub watch_by : ℕ → UserCall → Option UserSocket
watch_by caller (Watch socket watched at) = Some (user_socket caller socket watched)
watch_by caller _ = None

-- the watch that the entry begins: a Watch that is answered Watching
abbrev pub begins_watch : UserEntry → Option UserSocket
begins_watch e = if is_watching e.answer then watch_by e.caller e.call else None

-- whether the call begins the watch anew, or loses the socket
abbrev pub is_watch_settled_by : UserSocket → UserAnswer → UserCall → Bool
is_watch_settled_by r answer (Watch socket watched at) = is_watching answer && (r.socket == socket) && bytes_eq r.user watched
is_watch_settled_by r answer (Lost socket at) = r.socket == socket
is_watch_settled_by r answer _ = false

-- whether the entry is a later word on this watch
abbrev pub watch_settles : UserSocket → UserEntry → Bool
watch_settles r e = is_watch_settled_by r e.answer e.call

-- the watches of all users that last, in their order
abbrev pub watches : UserHistory → List UserSocket
watches h = open_rows begins_watch watch_settles h

-- those after one more entry
abbrev pub watches_after : List UserSocket → UserEntry → List UserSocket
watches_after xs e = rows_after begins_watch watch_settles xs e

-- Sign-ins or watches of one user, and of one socket

-- those of the user
abbrev pub of_user : List UserSocket → List ℕ → List UserSocket
of_user xs user = filter (λ r. bytes_eq r.user user) xs

-- whether the socket has one of the user
abbrev pub has_one_of : List UserSocket → ℕ → List ℕ → Bool
has_one_of xs socket user = list_any (λ r. r.socket == socket) (of_user xs user)

-- the users of the socket, each once, ascending
abbrev pub users_of : List UserSocket → ℕ → List (List ℕ)
users_of xs socket = ascending (map (λ r. r.user) (filter (λ r. r.socket == socket) xs))

-- whether the user has one
abbrev pub has_any : List UserSocket → List ℕ → Bool
has_any xs user = not (is_empty (of_user xs user))

-- After a history

-- whether the socket is signed in as the user
abbrev pub signed : UserHistory → ℕ → List ℕ → Bool
signed h socket user = has_one_of (sign_ins h) socket user

-- whether the socket watches the user
abbrev pub watching : UserHistory → ℕ → List ℕ → Bool
watching h socket user = has_one_of (watches h) socket user

-- the sockets that are signed in as the user, in the order of their sign-ins
abbrev pub sockets : UserHistory → List ℕ → List UserSocket
sockets h user = of_user (sign_ins h) user

-- the sockets that watch the user, in the order of their watches
abbrev pub watchers : UserHistory → List ℕ → List UserSocket
watchers h user = of_user (watches h) user

-- whether a socket is signed in as the user
abbrev pub online : UserHistory → List ℕ → Bool
online h user = has_any (sign_ins h) user
