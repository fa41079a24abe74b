-- That a printed frame is a JSON object that tells its event (Pusher Channels protocol, "Events").
use Rattle.std.specs.Prelude.{◌<◌, ◌^◌, ℕ, List, codes}
use Rattle.ch_base.specs.JsonTree.{Tree, Members}
use Rattle.ch_base.specs.JsonText.{SpellsWithin}
use Rattle.ch_base.specs.declared.frame.Frame.{Frame}
use Rattle.ch_base.specs.declared.frame.Frame.TheVariants.{Opened, Error, Ping, Pong, Succeeded, Present, Added, Removed, Event, Miss, SignedIn, Watch, Kill}
use Rattle.ch_base.specs.Printed.{printed}
use Rattle.ch_base.specs.ObjectMembers.{IsObjectText, HasString}

-- the name of a frame's event
abbrev pub event_name : Frame → List ℕ
event_name (Opened number) = codes "pusher:connection_established"
event_name (Error code) = codes "pusher:error"
event_name Ping = codes "pusher:ping"
event_name Pong = codes "pusher:pong"
event_name (Succeeded channel) = codes "pusher_internal:subscription_succeeded"
event_name (Present channel rows) = codes "pusher_internal:subscription_succeeded"
event_name (Added channel member) = codes "pusher_internal:member_added"
event_name (Removed channel user_id) = codes "pusher_internal:member_removed"
event_name (Event channel event body user_id) = event
event_name (Miss channel) = codes "pusher:cache_miss"
event_name (SignedIn user_data) = codes "pusher:signin_success"
event_name (Watch online user_id) = codes "pusher_internal:watchlist_events"
event_name Kill = codes "pusher:error"

-- the body of an event is a JSON text that nests at most 63 levels, one less than a text may; a code has 16 bits
abbrev pub IsPrintable : Frame → Type 0
IsPrintable (Event channel event body user_id) = (v : Tree) × SpellsWithin 63 body v
IsPrintable (Error code) = code < 2 ^ 16
IsPrintable _ = Unit {0}

-- the text is a JSON object, and its member `event` is this name
pub record IsEventObject (text : List ℕ) (name : List ℕ) : Type 0 where
  pub members : Members
  pub object : IsObjectText text members
  pub event : HasString text members (codes "event") name

-- a printed frame is a JSON object that tells the frame's event
abbrev pub PrintedTellsEvent : Type 0
PrintedTellsEvent = (frame : Frame) (start : ℕ) → IsPrintable frame → IsEventObject (printed frame start) (event_name frame)
