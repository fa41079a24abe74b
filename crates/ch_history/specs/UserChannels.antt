-- The channel of a user's own, which has the user's id in its name (Pusher Channels documentation, "Sending events to
-- authenticated users").
use Rattle.std.specs.Prelude.{ℕ, Bool, ◌||◌, List, [], length, drop, Option, Some, None, is_some, if◌then◌else◌}
use Rattle.ch_history.specs.ChannelName.{begins, is_good_name}
use Rattle.ch_history.specs.Limits.{is_user_id}
use Rattle.ch_history.specs.UserFrames.{user_channel}

-- what stands before the user's id
abbrev pub user_prefix : List ℕ
user_prefix = user_channel []

-- the name without that
abbrev pub behind_prefix : List ℕ → List ℕ
behind_prefix name = drop (length user_prefix) name

-- the user whose channel has this name; none where it is no user's
abbrev pub channel_user : List ℕ → Option (List ℕ)
channel_user name =
    if begins user_prefix name then (if is_user_id (behind_prefix name) then Some (behind_prefix name) else None) else None

abbrev pub is_user_channel : List ℕ → Bool
is_user_channel name = is_some (channel_user name)

-- a channel to which sockets subscribe: a good name, or a user's own channel
abbrev pub is_subscribable : List ℕ → Bool
is_subscribable channel = is_good_name channel || is_user_channel channel
