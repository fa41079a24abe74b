-- What a session does with a message, and what the answers to its asks mean (Pusher Channels protocol, "Subscription
-- events", "Client events", "Presence channel events", "User authentication" and "Watchlist events").
use Rattle.std.specs.Prelude.{ℕ, zero, Bool, false, ◌&&◌, not, nat_le, List, [], ◌∷◌, ◌++◌, map, codes, bytes_eq, Option, Some, None, is_some, is_none, Ok, Err, if◌then◌else◌}
use Rattle.std.specs.Fmt.{decimal}
use Rattle.ch_base.specs.declared.channel.Member.{Member}
use Rattle.ch_base.specs.declared.channel.ChanCall.{ChanCall}
use Rattle.ch_base.specs.declared.channel.ChanCall.TheVariants as chan
use Rattle.ch_base.specs.declared.channel.ChanAnswer.{ChanAnswer}
use Rattle.ch_base.specs.declared.channel.ChanAnswer.TheVariants.{Already, Crowded, NotOn}
use Rattle.ch_base.specs.declared.user.UserCall.TheVariants as user
use Rattle.ch_base.specs.declared.user.UserAnswer.{UserAnswer}
use Rattle.ch_base.specs.declared.user.UserAnswer.TheVariants.{SignedIn as SignedInAnswer}
use Rattle.ch_base.specs.declared.frame.Frame.TheVariants.{Pong as PongFrame, Succeeded, SignedIn}
use Rattle.ch_config.specs.declared.config.Config.{Config}
use Rattle.ch_history.specs.ChannelName.{kind_of, is_presence, needs_auth, may_say}
use Rattle.ch_history.specs.Placement.{shard_of}
use Rattle.ch_rate.specs.Rate.{rate_allows}
use Rattle.ch_sig.specs.Hmac.{hmac_hex}
use Rattle.ch_sig.specs.SignedText.{socket_text, user_text, authorization_text}
use Rattle.ch_protocol.specs.ClientMessages.{Verdict}
use Rattle.ch_protocol.specs.Readings.{Reading}
use Rattle.ch_protocol.specs.Settling.{SettledAsk, count, user_of, accepted}
use Rattle.ch_history.specs.UserChannels.{channel_user, is_user_channel}
use Rattle.ch_protocol.specs.declared.client_message.ClientMessage.TheVariants.{Ping, Pong, Subscribe, Unsubscribe, SignIn, Say}
use Rattle.ch_protocol.specs.declared.client_message.UserData.{UserData}
use Rattle.ch_protocol.specs.declared.ask.Ask.{Ask}
use Rattle.ch_protocol.specs.declared.ask.Ask.TheVariants.{Chan, User}
use Rattle.ch_protocol.specs.declared.ask.Made.{Made}
use Rattle.ch_protocol.specs.declared.ask.Made.TheVariants as made
use Rattle.ch_base.specs.declared.error_codes.TheConstants.{UNAUTHORIZED, RECONNECT, RATE_LIMIT_REACHED, ALREADY_SUBSCRIBED, NOT_SUBSCRIBED, INVALID_SIGNATURE, INVALID_CHANNEL_DATA, CLIENT_EVENT_REFUSED, TOO_MANY_SUBSCRIPTIONS, CHANNEL_FULL, INVALID_USER_DATA, ALREADY_SIGNED_IN, OUT_OF_MEMORY}
use Rattle.ch_protocol.specs.declared.limits.TheConstants.{MAX_SUBSCRIPTIONS}
use Rattle.ch_protocol.specs.declared.heard.Heard.{Heard}
use Rattle.ch_protocol.specs.declared.heard.Heard.TheVariants as heard
use Rattle.ch_protocol.specs.declared.heard.Settled.{Settled}
use Rattle.ch_protocol.specs.declared.heard.Settled.TheVariants as settled

-- what a session knows when a message comes: the configuration, the second of the server's start, its number, its settled
-- asks, and the moment
pub record Session : Type 0 where
  pub config : Config
  pub start : ℕ
  pub number : ℕ
  pub asks : List SettledAsk
  pub now : ℕ

-- ---- authorization

-- the second of the server's start, a point, and the socket's number
abbrev pub socket_id : ℕ → ℕ → List ℕ
socket_id start number = decimal start ++ codes "." ++ decimal number

-- what authorizes a subscription
abbrev pub channel_auth : Config → ℕ → ℕ → List ℕ → Option (List ℕ) → List ℕ
channel_auth config start number channel channel_data =
    authorization_text config.key (hmac_hex config.secret (socket_text (socket_id start number) channel channel_data))

-- what authorizes a sign-in
abbrev pub user_auth : Config → ℕ → ℕ → List ℕ → List ℕ
user_auth config start number user_data =
    authorization_text config.key (hmac_hex config.secret (user_text (socket_id start number) user_data))

abbrev pub is_given : Option (List ℕ) → List ℕ → Bool
is_given None auth = false
is_given (Some given) auth = bytes_eq given auth

-- ---- messages

-- one call on the channel's shard
abbrev pub ask_on : Session → List ℕ → ChanCall → Heard
ask_on s channel call = heard.Ask (Chan (shard_of channel s.config.chan_shards) call ∷ [])

-- a user's own channel is for the sockets that are signed in as this user
abbrev pub subscribes_own : Session → List ℕ → List ℕ → Heard
subscribes_own s channel id =
    if is_given (user_of s.asks) id then heard.Reply (Succeeded channel) else heard.Refuse INVALID_SIGNATURE

-- any other channel
abbrev pub subscribes_to : Session → List ℕ → Option (List ℕ) → Option (List ℕ) → Option Member → Heard
subscribes_to s channel auth channel_data member =
    if nat_le MAX_SUBSCRIPTIONS (count s.asks) then heard.Refuse TOO_MANY_SUBSCRIPTIONS
    else if is_presence channel && is_none member then heard.Refuse INVALID_CHANNEL_DATA
    else if needs_auth (kind_of channel) && not (is_given auth (channel_auth s.config s.start s.number channel channel_data))
    then heard.Refuse INVALID_SIGNATURE
    else ask_on s channel (chan.Join s.number channel member s.now)

abbrev pub subscribes : Session → List ℕ → Option (List ℕ) → Option (List ℕ) → Option Member → Option (List ℕ) → Heard
subscribes s channel auth channel_data member (Some id) = subscribes_own s channel id
subscribes s channel auth channel_data member None = subscribes_to s channel auth channel_data member

abbrev pub unsubscribes : Session → List ℕ → Heard
unsubscribes s channel =
    if is_user_channel channel then heard.Nothing else ask_on s channel (chan.Leave s.number channel s.now)

abbrev pub says : Session → List ℕ → List ℕ → List ℕ → Heard
says s channel event body =
    if not (may_say (kind_of channel) && s.config.client_events) then heard.Refuse CLIENT_EVENT_REFUSED
    else if not (rate_allows (accepted s.asks) s.now) then heard.Refuse RATE_LIMIT_REACHED
    else ask_on s channel (chan.Say s.number channel event body s.now)

abbrev pub sign_in_ask : Session → List ℕ → Ask
sign_in_ask s id = User (shard_of id s.config.user_shards) (user.SignIn s.number id s.now)

abbrev pub watch_ask : Session → List ℕ → Ask
watch_ask s id = User (shard_of id s.config.user_shards) (user.Watch s.number id s.now)

-- the sign-in, and a watch for each user of the watchlist
abbrev pub signs_in_as : Session → List ℕ → List ℕ → Option UserData → Heard
signs_in_as s auth user_data None = heard.Refuse INVALID_USER_DATA
signs_in_as s auth user_data (Some u) =
    if bytes_eq auth (user_auth s.config s.start s.number user_data)
    then heard.Ask (sign_in_ask s u.id ∷ map (watch_ask s) u.watchlist)
    else heard.End UNAUTHORIZED

abbrev pub signs_in : Session → List ℕ → List ℕ → Option UserData → Heard
signs_in s auth user_data u =
    if is_some (user_of s.asks) then heard.Refuse ALREADY_SIGNED_IN else signs_in_as s auth user_data u

-- by the verdict on a text, and who joins or signs in by it
abbrev pub judged_as : Session → Option Member → Option UserData → Verdict → Heard
judged_as s member u (Err code) = heard.Refuse code
judged_as s member u (Ok Ping) = heard.Reply PongFrame
judged_as s member u (Ok Pong) = heard.Nothing
judged_as s member u (Ok (Subscribe channel auth channel_data)) =
    subscribes s channel auth channel_data member (channel_user channel)
judged_as s member u (Ok (Unsubscribe channel)) = unsubscribes s channel
judged_as s member u (Ok (SignIn auth user_data)) = signs_in s auth user_data u
judged_as s member u (Ok (Say channel event body)) = says s channel event body

-- what a session does with a text that is read so
abbrev pub judged : Session → Reading → Heard
judged s r = judged_as s r.member r.user r.verdict

-- ---- answers

abbrev pub chan_outcome : ChanAnswer → Settled
chan_outcome Already = settled.Refuse ALREADY_SUBSCRIBED
chan_outcome Crowded = settled.Refuse CHANNEL_FULL
chan_outcome NotOn = settled.Refuse NOT_SUBSCRIBED
chan_outcome _ = settled.Nothing

-- the first answer to a sign-in tells the user's data, as they were sent
abbrev pub user_outcome : List ℕ → ℕ → UserAnswer → Settled
user_outcome user_data zero SignedInAnswer = settled.Reply (SignedIn user_data)
user_outcome user_data place answer = settled.Nothing

abbrev pub memory_outcome : ℕ → Settled
memory_outcome zero = settled.Refuse OUT_OF_MEMORY
memory_outcome place = settled.End RECONNECT

-- what came of the ask at a place, counted from 0, means for the socket; user_data: those of the message that is a sign-in
abbrev pub outcome : List ℕ → ℕ → Made → Settled
outcome user_data place (made.Chan answer) = chan_outcome answer
outcome user_data place (made.User answer) = user_outcome user_data place answer
outcome user_data place made.Memory = memory_outcome place
