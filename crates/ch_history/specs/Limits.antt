-- The bounds of what calls carry.
use Rattle.std.specs.Prelude.{ℕ, ◌^◌, ◌≤◌, Bool, ◌&&◌, List, length, nat_le}
use Rattle.ch_base.specs.declared.limits.TheConstants.{LATEST_MOMENT}
use Rattle.ch_history.specs.declared.limits.TheConstants.{MAX_NAME, MAX_USER_ID}

-- a socket's number
abbrev pub IsSocket : ℕ → Type 0
IsSocket socket = (1 ≤ socket) × (socket ≤ 2 ^ 62)

-- a moment, in milliseconds
abbrev pub IsMoment : ℕ → Type 0
IsMoment at = at ≤ LATEST_MOMENT

-- an event name (Pusher Channels documentation, HTTP API, "POST event")
abbrev pub is_event_name : List ℕ → Bool
is_event_name name = nat_le 1 (length name) && nat_le (length name) MAX_NAME

-- a user id (Pusher Channels documentation, Presence channels, "Limits")
abbrev pub is_user_id : List ℕ → Bool
is_user_id id = nat_le 1 (length id) && nat_le (length id) MAX_USER_ID
