-- Which events a body triggers (Pusher Channels documentation, HTTP API, "POST event" and "POST batch events").
use Rattle.std.specs.Prelude.{◌≡◌, ◌⊎◌, ◌≤◌, ◌==◌, ℕ, Bool, ◌&&◌, List, [], ◌∷◌, length, IsTrue, IsUtf8, Option, Some, None, codes}
use Rattle.std.specs.List.{before_first, after_first}
use Rattle.ch_base.specs.JsonTree.{Span, Tree, plain, string, array, object, Items, Members}
use Rattle.ch_base.specs.JsonText.{Unescapes}
use Rattle.ch_base.specs.JsonParts.{part, items_of}
use Rattle.ch_base.specs.ObjectMembers.{IsObjectText, AreDistinct, HasNone, HasOne, HasString, HasOptional, IsStringOf}
use Rattle.ch_base.specs.FirstPlaces.{first_places}
use Rattle.ch_history.specs.Limits.{is_event_name}
use Rattle.ch_history.specs.UserChannels.{is_subscribable}
use Rattle.ch_names.specs.SocketIds.{is_part}
use Rattle.ch_requests.specs.declared.limits.TheConstants.{MOST_CHANNELS, MOST_EVENTS}
use Rattle.ch_requests.specs.declared.request.Route.{Route}
use Rattle.ch_requests.specs.declared.request.Route.TheVariants.{Events, BatchEvents}
use Rattle.ch_requests.specs.declared.trigger.Trigger.{Trigger}

-- ---- data

-- the member `data` is a string, which is spelled so and has so many bytes unescaped
abbrev pub HasData : List ℕ → Members → List ℕ → ℕ → Type 0
HasData text ms body size =
    (s : Span) × HasOne text ms (codes "data") (plain string s) × (body ≡ part text s)
    × ((x : List ℕ) × Unescapes (part text s) x × (size ≡ length x))

-- ---- channels

-- the member `channel` names the one channel, and there is no `channels`
abbrev pub HasChannel : List ℕ → Members → List (List ℕ) → Type 0
HasChannel text ms channels =
    (channel : List ℕ) × HasString text ms (codes "channel") channel × IsTrue (is_subscribable channel)
    × (channels ≡ channel ∷ []) × HasNone text ms (codes "channels")

-- the values are strings with the names of channels or of users' own channels
abbrev pub AreChannels : List ℕ → List Tree → List (List ℕ) → Type 0
AreChannels text [] [] = Unit {0}
AreChannels text (v ∷ vs) (name ∷ names) = IsStringOf text v name × IsTrue (is_subscribable name) × AreChannels text vs names
AreChannels text _ _ = ⊥

-- an array of 1 to 100 channels, of which a repeated one counts once
pub record IsChannelList (text : List ℕ) (vs : Items) (channels : List (List ℕ)) : Type 0 where
  pub some : 1 ≤ length (items_of vs)
  pub few : length (items_of vs) ≤ MOST_CHANNELS
  pub names : List (List ℕ)
  pub are : AreChannels text (items_of vs) names
  pub once : channels ≡ first_places names

-- the member `channels` names the channels, and there is no `channel`
abbrev pub HasChannels : List ℕ → Members → List (List ℕ) → Type 0
HasChannels text ms channels =
    ((vs : Items) × (s : Span) × HasOne text ms (codes "channels") (array vs s) × IsChannelList text vs channels)
    × HasNone text ms (codes "channel")

-- exactly one of the two names the channels
abbrev pub HasEither : List ℕ → Members → List (List ℕ) → Type 0
HasEither text ms channels = HasChannel text ms channels ⊎ HasChannels text ms channels

-- ---- sockets

abbrev pub is_point : ℕ → Bool
is_point b = b == 46

-- two parts of 1 to 19 digits with a point between them
abbrev pub is_socket_id : List ℕ → Bool
is_socket_id id = is_part (before_first is_point id) && is_part (after_first is_point id)

abbrev pub IsSocketId : Option (List ℕ) → Type 0
IsSocketId None = Unit {0}
IsSocketId (Some id) = IsTrue (is_socket_id id)

-- ---- events

-- The members are those of the event, whose channels are named as Names says. No name stands twice; others than these are
-- ignored.
pub record IsEvent (Names : List ℕ → Members → List (List ℕ) → Type 0) (text : List ℕ) (ms : Members) (t : Trigger) : Type 0 where
  pub distinct : AreDistinct text ms
  pub name : HasString text ms (codes "name") t.event
  pub good_name : IsTrue (is_event_name t.event)
  pub content : HasData text ms t.body t.size
  pub named : Names text ms t.channels
  pub socket : HasOptional text ms (codes "socket_id") t.socket_id
  pub good_socket : IsSocketId t.socket_id
  pub asked : HasOptional text ms (codes "info") t.info

-- the values are objects, each with an event on one channel
abbrev pub AreEvents : List ℕ → List Tree → List Trigger → Type 0
AreEvents text [] [] = Unit {0}
AreEvents text (v ∷ vs) (t ∷ ts) =
    ((ms : Members) × (s : Span) × (v ≡ object ms s) × IsEvent HasChannel text ms t) × AreEvents text vs ts
AreEvents text _ _ = ⊥

-- an array of 1 to 10 events
pub record IsEventList (text : List ℕ) (vs : Items) (ts : List Trigger) : Type 0 where
  pub some : 1 ≤ length (items_of vs)
  pub few : length (items_of vs) ≤ MOST_EVENTS
  pub are : AreEvents text (items_of vs) ts

-- ---- bodies

-- the body is UTF-8 (RFC 8259, section 8.1), and the object of one event
abbrev pub TellsEvent : List ℕ → Trigger → Type 0
TellsEvent body t = IsUtf8 body × ((ms : Members) × IsObjectText body ms × IsEvent HasEither body ms t)

-- the body is UTF-8, and an object whose member `batch` has the events
abbrev pub TellsBatch : List ℕ → List Trigger → Type 0
TellsBatch body ts =
    IsUtf8 body
    × ((ms : Members) × IsObjectText body ms
    × ((vs : Items) × (s : Span) × HasOne body ms (codes "batch") (array vs s) × IsEventList body vs ts))

-- the events that the body of a request triggers; of other routes it isn't read
abbrev pub Triggers : Route → List ℕ → List Trigger → Type 0
Triggers Events body ts = (t : Trigger) × TellsEvent body t × (ts ≡ t ∷ [])
Triggers BatchEvents body ts = TellsBatch body ts
Triggers route body ts = ts ≡ []

-- these events, or none where the body has a fault
abbrev pub ReadsBody : Route → List ℕ → Option (List Trigger) → Type 0
ReadsBody route body (Some ts) = Triggers route body ts
ReadsBody route body None = (ts : List Trigger) → Triggers route body ts → ⊥
