-- Events as JSON objects (Pusher Channels protocol, "Events").
use Rattle.std.specs.Prelude.{ℕ, List, ◌++◌, codes}
use Rattle.ch_base.specs.Escape.{quoted}

-- an event for the connection itself; its body, which the member `data` has, is a JSON text
abbrev pub connection_event : List ℕ → List ℕ → List ℕ
connection_event event body = codes "{\"event\":" ++ quoted event ++ codes ",\"data\":" ++ body ++ codes "}"

-- an event on a channel; its body is a JSON text
abbrev pub channel_event : List ℕ → List ℕ → List ℕ → List ℕ
channel_event event channel body =
    codes "{\"event\":" ++ quoted event ++ codes ",\"channel\":" ++ quoted channel ++ codes ",\"data\":" ++ body ++ codes "}"

-- the same from a member of a presence channel, whose user id it tells
abbrev pub member_event : List ℕ → List ℕ → List ℕ → List ℕ → List ℕ
member_event event channel body user_id =
    codes "{\"event\":" ++ quoted event ++ codes ",\"channel\":" ++ quoted channel ++ codes ",\"data\":" ++ body
    ++ codes ",\"user_id\":" ++ quoted user_id ++ codes "}"

-- an event on a channel that has no body
abbrev pub bare_event : List ℕ → List ℕ → List ℕ
bare_event event channel = codes "{\"event\":" ++ quoted event ++ codes ",\"channel\":" ++ quoted channel ++ codes "}"
