-- The messages that a `join` and a `signin` stand for (Pusher Channels protocol, `pusher:subscribe` and `pusher:signin`).
use Rattle.std.specs.Prelude.{ℕ, List, [], ◌++◌, codes, Option, Some, None, if◌then◌else◌}
use Rattle.ch_base.specs.Escape.{quoted}
use Rattle.ch_config.specs.declared.config.Config.{Config}
use Rattle.ch_history.specs.ChannelName.{kind_of, needs_auth}
use Rattle.ch_protocol.specs.Sessions.{channel_auth, user_auth}
use Rattle.ch_transcript.specs.declared.start.TheConstants.{START_SECOND}

-- the member `auth`, where the channel's kind needs one
abbrev pub auth_member : Config → ℕ → List ℕ → Option (List ℕ) → List ℕ
auth_member config number channel channel_data =
    if needs_auth (kind_of channel)
    then codes ",\"auth\":" ++ quoted (channel_auth config START_SECOND number channel channel_data) else []

-- the member `channel_data`, where there are data
abbrev pub data_member : Option (List ℕ) → List ℕ
data_member None = []
data_member (Some channel_data) = codes ",\"channel_data\":" ++ quoted channel_data

-- the socket subscribes to the channel, rightly authorized
abbrev pub join_text : Config → ℕ → List ℕ → Option (List ℕ) → List ℕ
join_text config number channel channel_data =
    codes "{\"event\":\"pusher:subscribe\",\"data\":{\"channel\":" ++ quoted channel
    ++ auth_member config number channel channel_data ++ data_member channel_data ++ codes "}}"

-- the socket signs a user in, rightly authorized
abbrev pub sign_in_text : Config → ℕ → List ℕ → List ℕ
sign_in_text config number user_data =
    codes "{\"event\":\"pusher:signin\",\"data\":{\"auth\":" ++ quoted (user_auth config START_SECOND number user_data)
    ++ codes ",\"user_data\":" ++ quoted user_data ++ codes "}}"
