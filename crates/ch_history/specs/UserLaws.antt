-- A law of every legal history of a user shard.
use Rattle.std.specs.Prelude.{ℕ, Bool, false, ◌&&◌, ◌==◌, IsTrue, List, [], bytes_eq, Option, Some, None, filter_map, if◌then◌else◌}
use Rattle.ch_base.specs.declared.user.UserCall.{UserCall}
use Rattle.ch_base.specs.declared.user.UserCall.TheVariants.{Watch}
use Rattle.ch_base.specs.declared.user.UserAnswer.{UserAnswer}
use Rattle.ch_base.specs.declared.frame.Frame.{Frame}
use Rattle.ch_base.specs.declared.frame.Frame.TheVariants as frame
use Rattle.ch_history.specs.declared.rows.Delivery.{Delivery}
use Rattle.ch_history.specs.Entries.{UserEntry, UserHistory}
use Rattle.ch_history.specs.Steps.{gathered_from}
use Rattle.ch_history.specs.SignIns.{is_watching, watching, online}
use Rattle.ch_history.specs.UserFrames.{user_frames}
use Rattle.ch_history.specs.UserLegal.{IsUserLegal}
use Rattle.ch_history.specs.Laws.{Goes}

-- what the frame says of the user: whether it is online
abbrev pub says_of : List ℕ → Frame → Option Bool
says_of user (frame.Watch is_online user_id) = if bytes_eq user_id user then Some is_online else None
says_of user _ = None

-- what the frame tells the socket of the user
abbrev pub tells : ℕ → List ℕ → Delivery → Option Bool
tells socket user d = if d.item.socket == socket then says_of user d.item.frame else None

-- whether the call begins the socket's watch of the user
abbrev pub is_watch_of : ℕ → List ℕ → UserAnswer → UserCall → Bool
is_watch_of socket user answer (Watch s watched at) = is_watching answer && (s == socket) && bytes_eq watched user
is_watch_of socket user answer _ = false

-- whether with this entry the socket begins to watch the user
abbrev pub starts_watch : ℕ → List ℕ → UserEntry → Bool
starts_watch socket user e = is_watch_of socket user e.answer e.call

-- what the socket was told of the user since it began to watch it
abbrev pub told_of : UserHistory → ℕ → List ℕ → List Bool
told_of h socket user = filter_map (tells socket user) (gathered_from (starts_watch socket user) user_frames [] h)

-- while the socket watches the user, what it was told since alternates, beginning with online; the last one is online exactly
-- where the user is, and where there is none the user isn't
abbrev pub WatchAlternates : UserHistory → ℕ → List ℕ → Type 0
WatchAlternates h socket user = IsTrue (watching h socket user) → Goes false (online h user) (told_of h socket user)

-- the law of watchers
abbrev pub WatchersLaw : Type 0
WatchersLaw = (h : UserHistory) → IsUserLegal h → (socket : ℕ) (user : List ℕ) → WatchAlternates h socket user
