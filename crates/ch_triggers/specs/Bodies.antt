-- The parts of a body, as they are read.
use Rattle.std.specs.Prelude.{◌≡◌, ℕ, Bool, true, List, [], ◌∷◌, IsTrue, Option, Some, None, codes}
use Rattle.ch_base.specs.JsonTree.{Span, Tree, array, object, Items, Members}
use Rattle.ch_base.specs.JsonText.{Spells}
use Rattle.ch_base.specs.ObjectMembers.{HasOne, HasString, HasOptional}
use Rattle.ch_history.specs.Limits.{is_event_name}
use Rattle.ch_json.specs.Document.{Document}
use Rattle.ch_json.specs.NodeOf.{HasTree}
use Rattle.ch_requests.specs.Triggers.{HasChannel, IsEvent, IsEventList, IsSocketId, is_socket_id}
use Rattle.ch_requests.specs.declared.trigger.Trigger.{Trigger}

-- the document is that of the text
abbrev pub IsDocument : List ℕ → Document → Type 0
IsDocument text d = (v : Tree) × Spells text v × HasTree d v

-- the list of one thing of the kind
abbrev pub IsOnly : (Trigger → Type 0) → List Trigger → Type 0
IsOnly P ts = (t : Trigger) × P t × (ts ≡ t ∷ [])

-- the member `name` is the name of an event
abbrev pub HasEventName : List ℕ → Members → List ℕ → Type 0
HasEventName text ms name = HasString text ms (codes "name") name × IsTrue (is_event_name name)

abbrev pub is_socket_or_none : Option (List ℕ) → Bool
is_socket_or_none (Some id) = is_socket_id id
is_socket_or_none None = true

-- the member `socket_id` is the id of a socket, or is left out
abbrev pub HasSocketId : List ℕ → Members → Option (List ℕ) → Type 0
HasSocketId text ms id = HasOptional text ms (codes "socket_id") id × IsSocketId id

-- the channels are these
abbrev pub AreThese : List (List ℕ) → List ℕ → Members → List (List ℕ) → Type 0
AreThese these text ms channels = channels ≡ these

-- the value is the object of an event on one channel
abbrev pub IsEventValue : List ℕ → Tree → Trigger → Type 0
IsEventValue text v t = (ms : Members) × (s : Span) × (v ≡ object ms s) × IsEvent HasChannel text ms t

-- the member `batch` is an array of events
abbrev pub HasBatch : List ℕ → Members → List Trigger → Type 0
HasBatch text ms ts = (vs : Items) × (s : Span) × HasOne text ms (codes "batch") (array vs s) × IsEventList text vs ts
