-- The texts of frames, by the sections of the Pusher Channels protocol. The data of an event is a JSON text, and where the
-- protocol says so it is a JSON string that has a JSON text in it.
use Rattle.std.specs.Prelude.{◌≡◌, ℕ, List, ◌++◌, codes, Bool, true, false, Option, None, Some, if◌then◌else◌}
use Rattle.std.specs.Fmt.{decimal}
use Rattle.ch_base.specs.declared.channel.Member.{Member}
use Rattle.ch_base.specs.declared.frame.Frame.{Frame}
use Rattle.ch_base.specs.declared.frame.Frame.TheVariants.{Opened, Error, Ping, Pong, Succeeded, Present, Added, Removed, Event, Miss, SignedIn, Watch, Kill}
use Rattle.ch_base.specs.Escape.{quoted}
use Rattle.ch_base.specs.ErrorTexts.{error_text}
use Rattle.ch_base.specs.Events.{connection_event, channel_event, member_event, bare_event}
use Rattle.ch_base.specs.PresenceData.{roster, member_added_data, member_removed_data}
use Rattle.ch_base.specs.declared.error_codes.TheConstants.{UNAUTHORIZED}

-- ---- on the connection ("Connection events", "Error codes", "Ping and pong messages")

-- what a connection is told first: its socket id, which is the second of the server's start and the socket's number,
-- and the seconds of silence after which a ping is due
abbrev pub established_data : ℕ → ℕ → List ℕ
established_data number start = codes "{\"socket_id\":\"" ++ decimal start ++ codes "." ++ decimal number ++ codes "\",\"activity_timeout\":120}"

-- the first event of a connection ("Connection events", `pusher:connection_established`)
abbrev pub connection_established : ℕ → ℕ → List ℕ
connection_established number start = connection_event (codes "pusher:connection_established") (quoted (established_data number start))

-- an error, in words and by its code ("Connection events", `pusher:error`)
abbrev pub error : ℕ → List ℕ
error code =
    connection_event (codes "pusher:error")
    (codes "{\"message\":" ++ quoted (error_text code) ++ codes ",\"code\":" ++ decimal code ++ codes "}")

-- a question whether the other side is there ("Ping and pong messages")
abbrev pub ping : List ℕ
ping = connection_event (codes "pusher:ping") (codes "{}")

-- its answer
abbrev pub pong : List ℕ
pong = connection_event (codes "pusher:pong") (codes "{}")

-- ---- on a channel ("Subscription events", "Presence channel events", "Channel events", "Cache channels")

-- the answer to a subscribe; what it tells is a JSON text ("Subscription events")
abbrev pub subscription_succeeded : List ℕ → List ℕ → List ℕ
subscription_succeeded channel body = channel_event (codes "pusher_internal:subscription_succeeded") channel (quoted body)

-- a member that is new ("Presence channel events", `pusher_internal:member_added`)
abbrev pub member_added : List ℕ → Member → List ℕ
member_added channel member = channel_event (codes "pusher_internal:member_added") channel (quoted (member_added_data member))

-- a member that is gone ("Presence channel events", `pusher_internal:member_removed`)
abbrev pub member_removed : List ℕ → List ℕ → List ℕ
member_removed channel user_id = channel_event (codes "pusher_internal:member_removed") channel (quoted (member_removed_data user_id))

-- an event, with the user id of the member that it is from where it is known; its body stands as it is spelled
-- ("Channel events", "Client events")
abbrev pub event_on : List ℕ → List ℕ → List ℕ → Option (List ℕ) → List ℕ
event_on channel event body None = channel_event event channel body
event_on channel event body (Some user_id) = member_event event channel body user_id

-- a cache channel has no latest event ("Cache channels", `pusher:cache_miss`)
abbrev pub cache_miss : List ℕ → List ℕ
cache_miss channel = bare_event (codes "pusher:cache_miss") channel

-- ---- of users ("User authentication", "Watchlist events")

-- the answer to a sign-in: the user's data, as the socket sent it ("User authentication", `pusher:signin_success`)
abbrev pub signin_success : List ℕ → List ℕ
signin_success user_data = connection_event (codes "pusher:signin_success") (codes "{\"user_data\":" ++ quoted user_data ++ codes "}")

-- whether a user is there, in a word
abbrev pub presence_word : Bool → List ℕ
presence_word online = if online then codes "online" else codes "offline"

-- that a watched user came or is gone
abbrev pub watchlist_change : Bool → List ℕ → List ℕ
watchlist_change online user_id =
    codes "{\"events\":[{\"name\":" ++ quoted (presence_word online) ++ codes ",\"user_ids\":[" ++ quoted user_id ++ codes "]}]}"

-- a socket that watches the user is told so ("Watchlist events")
abbrev pub watchlist_events : Bool → List ℕ → List ℕ
watchlist_events online user_id = connection_event (codes "pusher_internal:watchlist_events") (watchlist_change online user_id)

-- ---- all

-- the text of a frame, of a server that started at this second
abbrev pub printed : Frame → ℕ → List ℕ
printed (Opened number) start = connection_established number start
printed (Error code) start = error code
printed Ping start = ping
printed Pong start = pong
printed (Succeeded channel) start = subscription_succeeded channel (codes "{}")
printed (Present channel rows) start = subscription_succeeded channel (roster rows)
printed (Added channel member) start = member_added channel member
printed (Removed channel user_id) start = member_removed channel user_id
printed (Event channel event body user_id) start = event_on channel event body user_id
printed (Miss channel) start = cache_miss channel
printed (SignedIn user_data) start = signin_success user_data
printed (Watch online user_id) start = watchlist_events online user_id
printed Kill start = error UNAUTHORIZED

-- whether the frame is the first of a connection, whose text alone depends on the server's start
abbrev pub is_opened : Frame → Bool
is_opened (Opened number) = true
is_opened frame = false

-- the text is that of the frame, whenever the server started
pub record IsPrinted (frame : Frame) (text : List ℕ) : Type 0 where
  pub timeless : is_opened frame ≡ false
  pub is : text ≡ printed frame 1
