-- What a client's text says: a message, or the code of its first fault (Pusher Channels protocol, "Events that clients
-- send" and "Client events").
use Rattle.std.specs.Prelude.{◌≡◌, ◌⊎◌, ℕ, ◌||◌, not, List, length, nat_lt, bytes_eq, codes, Result, Ok, Err, MatchBool, if◌then◌else◌}
use Rattle.ch_base.specs.JsonTree.{Span, object, Members}
use Rattle.ch_history.specs.ChannelName.{begins, is_good_name}
use Rattle.ch_history.specs.UserChannels.{is_subscribable}
use Rattle.ch_base.specs.declared.error_codes.TheConstants.{MALFORMED_MESSAGE, UNKNOWN_EVENT, INVALID_CHANNEL_NAME, MESSAGE_TOO_LONG}
use Rattle.ch_base.specs.ObjectMembers.{IsObjectText, AreDistinct, HasOne, HasString, HasOptional, HasSpelled}
use Rattle.ch_protocol.specs.declared.limits.TheConstants.{LONGEST_TEXT, LONGEST_EVENT, LONGEST_BODY}
use Rattle.ch_protocol.specs.declared.client_message.ClientMessage.{ClientMessage}
use Rattle.ch_protocol.specs.declared.client_message.ClientMessage.TheVariants.{Ping, Pong, Subscribe, Unsubscribe, SignIn, Say}

-- a message, or the code of a fault
abbrev pub Verdict : Type 0
Verdict = Result ClientMessage ℕ

-- ---- events

-- the events that clients send
pub data ClientEvent : Type 0 where
  ping : ClientEvent
  pong : ClientEvent
  subscribe : ClientEvent
  unsubscribe : ClientEvent
  sign_in : ClientEvent
  client : ClientEvent
  unknown : ClientEvent

abbrev pub event_of : List ℕ → ClientEvent
event_of name =
    if bytes_eq name (codes "pusher:ping") then ping
    else if bytes_eq name (codes "pusher:pong") then pong
    else if bytes_eq name (codes "pusher:subscribe") then subscribe
    else if bytes_eq name (codes "pusher:unsubscribe") then unsubscribe
    else if bytes_eq name (codes "pusher:signin") then sign_in
    else if begins (codes "client-") name then client
    else unknown

-- ---- shapes

-- the member `data` is an object with these members
abbrev pub HasData : List ℕ → Members → Members → Type 0
HasData text ms inner = (s : Span) × HasOne text ms (codes "data") (object inner s)

abbrev pub SubscribeShape : List ℕ → Members → ClientMessage → Type 0
SubscribeShape text ms (Subscribe channel auth channel_data) =
    (inner : Members) × HasData text ms inner × HasString text inner (codes "channel") channel
    × HasOptional text inner (codes "auth") auth × HasOptional text inner (codes "channel_data") channel_data
SubscribeShape text ms _ = ⊥

abbrev pub UnsubscribeShape : List ℕ → Members → ClientMessage → Type 0
UnsubscribeShape text ms (Unsubscribe channel) =
    (inner : Members) × HasData text ms inner × HasString text inner (codes "channel") channel
UnsubscribeShape text ms _ = ⊥

abbrev pub SignInShape : List ℕ → Members → ClientMessage → Type 0
SignInShape text ms (SignIn auth user_data) =
    (inner : Members) × HasData text ms inner × HasString text inner (codes "auth") auth
    × HasString text inner (codes "user_data") user_data
SignInShape text ms _ = ⊥

abbrev pub SayShape : List ℕ → List ℕ → Members → ClientMessage → Type 0
SayShape name text ms (Say channel event body) =
    (event ≡ name) × HasString text ms (codes "channel") channel × HasSpelled text ms (codes "data") body
SayShape name text ms _ = ⊥

-- ---- names and lengths

-- the message of a shape, where its channel's name is good and it is within the lengths
abbrev pub checked : ClientMessage → Verdict
checked (Subscribe channel auth channel_data) =
    if is_subscribable channel then Ok (Subscribe channel auth channel_data) else Err INVALID_CHANNEL_NAME
checked (Unsubscribe channel) = if is_subscribable channel then Ok (Unsubscribe channel) else Err INVALID_CHANNEL_NAME
checked (Say channel event body) =
    if not (is_good_name channel) then Err INVALID_CHANNEL_NAME
    else if nat_lt LONGEST_EVENT (length event) || nat_lt LONGEST_BODY (length body) then Err MESSAGE_TOO_LONG
    else Ok (Say channel event body)
checked message = Ok message

-- ---- texts

-- the verdict on an object by the shape of its event: the message of that shape is checked, and where there is none it is malformed
abbrev pub Shaped : (ClientMessage → Type 0) → Verdict → Type 0
Shaped shape verdict =
    ((m : ClientMessage) × shape m × (verdict ≡ checked m))
    ⊎ (((m : ClientMessage) → shape m → ⊥) × (verdict ≡ Err MALFORMED_MESSAGE))

-- the verdict on the object of an event with this name
abbrev pub SaysEvent : ClientEvent → List ℕ → List ℕ → Members → Verdict → Type 0
SaysEvent ping name text ms verdict = verdict ≡ Ok Ping
SaysEvent pong name text ms verdict = verdict ≡ Ok Pong
SaysEvent subscribe name text ms verdict = Shaped (SubscribeShape text ms) verdict
SaysEvent unsubscribe name text ms verdict = Shaped (UnsubscribeShape text ms) verdict
SaysEvent sign_in name text ms verdict = Shaped (SignInShape text ms) verdict
SaysEvent client name text ms verdict = Shaped (SayShape name text ms) verdict
SaysEvent unknown name text ms verdict = verdict ≡ Err UNKNOWN_EVENT

-- the text is an object in which no name stands twice, with these members and an event of this name
pub record IsEventText (text : List ℕ) (ms : Members) (name : List ℕ) : Type 0 where
  pub spelled : IsObjectText text ms
  pub distinct : AreDistinct text ms
  pub event : HasString text ms (codes "event") name

-- the verdict on a text that isn't too long
abbrev pub SaysObject : List ℕ → Verdict → Type 0
SaysObject text verdict =
    ((ms : Members) × (name : List ℕ) × IsEventText text ms name × SaysEvent (event_of name) name text ms verdict)
    ⊎ (((ms : Members) (name : List ℕ) → IsEventText text ms name → ⊥) × (verdict ≡ Err MALFORMED_MESSAGE))

-- the verdict on a text
abbrev pub Says : List ℕ → Verdict → Type 0
Says text verdict = MatchBool (nat_lt LONGEST_TEXT (length text)) (verdict ≡ Err MESSAGE_TOO_LONG) (SaysObject text verdict)
