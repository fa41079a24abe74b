-- What follows from the definitions of an exchange.
use Rattle.std.specs.Prelude.{◌≡◌, ◌≢◌, ◌↔◌, ℕ, false, List, ◌++◌, Some}
use Rattle.ch_answer.specs.Answers.{Serving}
use Rattle.ch_net.specs.Links.{LinkMoves}
use Rattle.ch_protocol.specs.Asks.{Asked, asks_of, came_of}
use Rattle.ch_requests.specs.declared.request.Look.TheVariants.{Need}
use Rattle.ch_exchange.specs.Answers.{Sense, Means, Replies}
use Rattle.ch_exchange.specs.Pending.{Pending}
use Rattle.ch_exchange.specs.Turns.{Course, Scene, TakesCourse, HasMore, HasRested}
use Rattle.ch_exchange.specs.declared.pending.After.{After}
use Rattle.ch_exchange.specs.declared.pending.After.TheVariants.{Close, Upgrade}
use Rattle.ch_exchange.specs.declared.turn.ExTurn.{ExTurn}
use Rattle.ch_exchange.specs.declared.turn.ExTurn.TheVariants.{Idle}

-- ---- one turn

-- this holds of every turn
abbrev pub OfTurns : (Course → Scene → Scene → ExTurn → Type 0) → Type 0
OfTurns P = (s : Serving) (c : Course) (old new : Scene) (result : ExTurn) → TakesCourse s c old new result → P c old new result

-- the link gave what was read, and took what was written
abbrev pub LinksMove : Type 0
LinksMove = OfTurns (λ c old new result. LinkMoves old.link new.link c.read c.written)

-- a turn is idle exactly where more turns may follow, no byte was read or written, and no reply was made
abbrev pub IdleTurns : Type 0
IdleTurns = OfTurns (λ c old new result. (result ≡ Idle) ↔ (HasMore result × HasRested old.stage c))

-- ---- the bytes of a request

-- Where bytes have a meaning that isn't that more are wanted, they have it whatever bytes follow.
abbrev pub MeaningStays : Type 0
MeaningStays =
    (s : Serving) (bytes more : List ℕ) (sense : Sense) → Means s bytes false sense → sense.look ≢ Need
    → Means s (bytes ++ more) false sense

-- the same follows a reply, but for the bytes that were read behind a handshake's head
abbrev pub FollowsAlike : After → After → Type 0
FollowsAlike Close Close = Unit {0}
FollowsAlike (Upgrade target rest) (Upgrade other more) = target ≡ other
FollowsAlike _ _ = ⊥

-- the same reply, of which other bytes may be read behind a handshake's head
pub record IsSameReply (one other : Pending) : Type 0 where
  pub bytes : one.left ≡ other.left
  pub after : FollowsAlike one.after other.after

-- The reply doesn't depend on how the bytes were cut: where two exchanges reply at one moment and in time, the one to the first
-- bytes of those that the other has read, they make the same asks, and where these have the same answers, the same reply.
abbrev pub CutsLeaveNoTrace : Type 0
CutsLeaveNoTrace =
    (s : Serving) (bytes more : List ℕ) (asked others : List Asked) (one other : Pending)
    → Replies s bytes false asked (Some one) → Replies s (bytes ++ more) false others (Some other)
    → (asks_of asked ≡ asks_of others) × (came_of asked ≡ came_of others → IsSameReply one other)
