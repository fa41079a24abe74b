-- The texts of webhook events, and the body of a batch (Pusher Channels documentation, Webhooks).
use Rattle.std.specs.Prelude.{ℕ, ◌-◌, ◌==◌, Bool, ◌&&◌, nat_lt, List, ◌++◌, codes, length, slice_index, Option, None, Some, if◌then◌else◌}
use Rattle.std.specs.Fmt.{decimal}
use Rattle.std.specs.List.{join_by}
use Rattle.ch_base.specs.declared.webhook.Hook.{Hook}
use Rattle.ch_base.specs.declared.webhook.Hook.TheVariants.{Occupied, Vacated, Added, Removed, Client, Miss}
use Rattle.ch_base.specs.Escape.{quoted}

-- an event of a channel ("Channel existence events", "Cache channel events")
abbrev pub of_channel : List ℕ → List ℕ → List ℕ
of_channel name channel = codes "{\"name\":\"" ++ name ++ codes "\",\"channel\":" ++ quoted channel ++ codes "}"

-- an event of a member of a presence channel ("Presence events")
abbrev pub of_member : List ℕ → List ℕ → List ℕ → List ℕ
of_member name channel user_id =
    codes "{\"name\":\"" ++ name ++ codes "\",\"channel\":" ++ quoted channel ++ codes ",\"user_id\":" ++ quoted user_id ++ codes "}"

-- whether a JSON text is a string: it stands between quotes
abbrev pub is_string : List ℕ → Bool
is_string text = nat_lt 1 (length text) && (slice_index text 0 == 34) && (slice_index text (length text - 1) == 34)

-- the data of a client event are a JSON string: the event's body where that is one, else the string of its text
abbrev pub data_text : List ℕ → List ℕ
data_text body = if is_string body then body else quoted body

-- the id of a socket: the second of the server's start and the socket's number
abbrev pub socket_id : ℕ → ℕ → List ℕ
socket_id start socket = decimal start ++ codes "." ++ decimal socket

-- the user id of the sender, where it is known
abbrev pub sender_text : Option (List ℕ) → List ℕ
sender_text None = codes ""
sender_text (Some id) = codes ",\"user_id\":" ++ quoted id

-- an event that a client sent ("Client events")
abbrev pub of_client : List ℕ → List ℕ → List ℕ → List ℕ → List ℕ → List ℕ
of_client channel event body id sender =
    codes "{\"name\":\"client_event\",\"channel\":" ++ quoted channel ++ codes ",\"event\":" ++ quoted event ++ codes ",\"data\":" ++ data_text body
    ++ codes ",\"socket_id\":\"" ++ id ++ codes "\"" ++ sender ++ codes "}"

-- the text of a webhook event, of a server that started at this second
abbrev pub event_text : ℕ → Hook → List ℕ
event_text start (Occupied channel) = of_channel (codes "channel_occupied") channel
event_text start (Vacated channel) = of_channel (codes "channel_vacated") channel
event_text start (Added channel user_id) = of_member (codes "member_added") channel user_id
event_text start (Removed channel user_id) = of_member (codes "member_removed") channel user_id
event_text start (Client channel event body socket user_id) = of_client channel event body (socket_id start socket) (sender_text user_id)
event_text start (Miss channel) = of_channel (codes "cache_miss") channel

-- the body of a batch: the moment of its cut and its events ("Webhook format")
abbrev pub body_text : ℕ → ℕ → List Hook → List ℕ
body_text start moment events =
    codes "{\"time_ms\":" ++ decimal moment ++ codes ",\"events\":[" ++ join_by (event_text start) (codes ",") events ++ codes "]}"
