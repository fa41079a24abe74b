-- Laws of every legal history of a channel shard.
use Rattle.std.specs.Prelude.{◌≡◌, ℕ, Bool, true, false, not, ◌&&◌, ◌||◌, ◌==◌, ◌≤◌, IsTrue, List, [], ◌∷◌, bytes_eq, Option, Some, None, filter, filter_map, length, if◌then◌else◌}
use Rattle.ch_base.specs.declared.channel.ChanCall.{ChanCall}
use Rattle.ch_base.specs.declared.channel.ChanCall.TheVariants.{Join}
use Rattle.ch_base.specs.declared.frame.Frame.{Frame}
use Rattle.ch_base.specs.declared.frame.Frame.TheVariants.{Event, Miss}
use Rattle.ch_base.specs.declared.webhook.Hook.{Hook}
use Rattle.ch_base.specs.declared.webhook.Hook.TheVariants.{Occupied, Vacated, Added, Removed}
use Rattle.ch_history.specs.declared.rows.Delivery.{Delivery}
use Rattle.ch_history.specs.Entries.{ChanEntry, ChanHistory}
use Rattle.ch_history.specs.Steps.{AllHold}
use Rattle.ch_history.specs.ChannelName.{is_presence, is_cache}
use Rattle.ch_history.specs.Subscriptions.{is_joined, subs}
use Rattle.ch_history.specs.Presence.{has_user}
use Rattle.ch_history.specs.Frames.{frames}
use Rattle.ch_history.specs.Pending.{hook_list}
use Rattle.ch_history.specs.Clock.{clock}
use Rattle.ch_history.specs.Held.{due, is_held, held}
use Rattle.ch_history.specs.OpenRows.{is_empty}
use Rattle.ch_history.specs.Legal.{IsLegal}

-- each is other than the one before, the first one than b
abbrev pub Alternates : Bool → List Bool → Type 0
Alternates b [] = Unit {0}
Alternates b (x ∷ xs) = (x ≡ not b) × Alternates x xs

-- the last one, or b where there is none
abbrev pub last_from : Bool → List Bool → Bool
last_from b [] = b
last_from b (x ∷ xs) = last_from x xs

-- the marks go from b to a: they alternate, the first one is other than b, and the last one, or b where there is none, is a
pub record Goes (b a : Bool) (marks : List Bool) : Type 0 where
  pub turns : Alternates b marks
  pub last : last_from b marks ≡ a

-- Occupancy

-- whether a socket is subscribed to the channel
abbrev pub is_occupied : ChanHistory → List ℕ → Bool
is_occupied h c = not (is_empty (subs h c))

-- what the event says of the channel: true where it is Occupied, false where it is Vacated
abbrev pub occupancy : List ℕ → Hook → Option Bool
occupancy c (Occupied channel) = if bytes_eq channel c then Some true else None
occupancy c (Vacated channel) = if bytes_eq channel c then Some false else None
occupancy c _ = None

-- whether the channel counts as occupied: a socket is subscribed, or its vacated notice is held
abbrev pub counts_occupied : ChanHistory → List ℕ → Bool
counts_occupied h c = is_occupied h c || is_held h c

-- Occupied and Vacated of the channel alternate, beginning with Occupied; the last one is Occupied exactly where the channel
-- counts as occupied, and where there is none it doesn't
abbrev pub OccupancyAlternates : ChanHistory → List ℕ → Type 0
OccupancyAlternates h c = Goes false (counts_occupied h c) (filter_map (occupancy c) (hook_list h))

-- the law of occupancy
abbrev pub OccupancyLaw : Type 0
OccupancyLaw = (h : ChanHistory) → IsLegal h → (c : List ℕ) → OccupancyAlternates h c

-- Held notices

-- where the channel's vacated notice is held, no socket is subscribed, and one notice of it is held
pub record IsHeldOnce (h : ChanHistory) (c : List ℕ) : Type 0 where
  pub vacant : IsTrue (is_held h c) → is_occupied h c ≡ false
  pub once : length (filter (λ notice. bytes_eq notice.channel c) (held h)) ≤ 1

-- no notice that is held is due at the shard's clock, so a channel counts as occupied for less than 3,000 ms after its last
-- subscription ended
pub record HoldsNotices (h : ChanHistory) : Type 0 where
  pub none_due : due (clock h) (held h) ≡ []
  pub each : (c : List ℕ) → IsHeldOnce h c

-- the law of held notices
abbrev pub HeldLaw : Type 0
HeldLaw = (h : ChanHistory) → IsLegal h → HoldsNotices h

-- Membership

-- what the event says of the user on the channel: true where it is Added, false where it is Removed
abbrev pub membership : List ℕ → List ℕ → Hook → Option Bool
membership c id (Added channel user_id) = if bytes_eq channel c && bytes_eq user_id id then Some true else None
membership c id (Removed channel user_id) = if bytes_eq channel c && bytes_eq user_id id then Some false else None
membership c id _ = None

-- Added and Removed of the user on the channel alternate, beginning with Added; the last one is Added exactly where the user
-- is there, and where there is none it isn't
abbrev pub MembershipAlternates : ChanHistory → List ℕ → List ℕ → Type 0
MembershipAlternates h c id = Goes false (has_user c (subs h c) id) (filter_map (membership c id) (hook_list h))

-- the law of membership
abbrev pub MembershipLaw : Type 0
MembershipLaw = (h : ChanHistory) → IsLegal h → (c id : List ℕ) → IsTrue (is_presence c) → MembershipAlternates h c id

-- Cache newcomers

-- whether the frame is an event or a cache miss
abbrev pub tells_latest : Frame → Bool
tells_latest (Event channel event body user_id) = true
tells_latest (Miss channel) = true
tells_latest _ = false

-- the events and cache misses among the frames that are for the socket
abbrev pub newcomer_frames : ℕ → List Delivery → List Delivery
newcomer_frames socket made = filter (λ d. (d.item.socket == socket) && tells_latest d.item.frame) made

-- a Join of a cache channel that is answered Joined makes exactly one of Event and Miss for the newcomer
abbrev pub GreetsBy : ChanHistory → ChanEntry → ChanCall → Type 0
GreetsBy h e (Join socket c member at) =
    IsTrue (is_joined e.answer && is_cache c) → length (newcomer_frames socket (frames h e)) ≡ 1
GreetsBy h e _ = Unit {0}

-- the same of an entry
abbrev pub Greets : ChanHistory → ChanEntry → Type 0
Greets h e = GreetsBy h e e.call

-- the same of every entry of the history
abbrev pub NewcomersGreeted : ChanHistory → Type 0
NewcomersGreeted h = AllHold Greets [] h

-- the law of cache newcomers
abbrev pub CacheNewcomerLaw : Type 0
CacheNewcomerLaw = (h : ChanHistory) → IsLegal h → NewcomersGreeted h
