-- One turn of an exchange.
use Rattle.std.specs.Prelude.{◌≡◌, ◌≢◌, ◌⊎◌, ◌≤◌, ℕ, List, [], ◌++◌, length, Option, Some, None}
use Rattle.ch_answer.specs.Answers.{Serving}
use Rattle.ch_desk.specs.OwnEntries.{Makes}
use Rattle.ch_desk.specs.Views.{DeskView}
use Rattle.ch_io.specs.Counts.{Rose}
use Rattle.ch_net.specs.Links.{LinkTold, LinkMoves}
use Rattle.ch_protocol.specs.Asks.{Asked}
use Rattle.ch_exchange.specs.declared.limits.TheConstants.{MOST_READ}
use Rattle.ch_exchange.specs.Answers.{ComesTo, is_late}
use Rattle.ch_exchange.specs.Causes.{TurnHasCause}
use Rattle.ch_exchange.specs.Pending.{Pending}
use Rattle.ch_exchange.specs.declared.pending.After.{After}
use Rattle.ch_exchange.specs.declared.pending.After.TheVariants.{Close, Upgrade as Upgraded}
use Rattle.ch_exchange.specs.declared.stage.Stage.{Stage}
use Rattle.ch_exchange.specs.declared.stage.Stage.TheVariants.{Reading, Replying, Finished}
use Rattle.ch_exchange.specs.declared.turn.ExTurn.{ExTurn}
use Rattle.ch_exchange.specs.declared.turn.ExTurn.TheVariants.{Moved, Idle, Upgrade, Done, Peer, Fault}

-- What happens in a turn: the bytes that are read, and what the link tells then; the asks that are made, each with what came of
-- it; the reply that stands then, if one does; and the bytes of it that the link takes, and those that are left.
pub record Course : Type 0 where
  pub read : List ℕ
  pub link : LinkTold
  pub asked : List Asked
  pub reply : Option Pending
  pub written : List ℕ
  pub left : List ℕ

-- how the exchange, its link and its desk are before a turn, or after it
pub record Scene : Type 0 where
  pub stage : Stage
  pub link : LinkTold
  pub desk : DeskView

-- ---- stages

-- the exchange isn't over
abbrev pub IsUnfinished : Stage → Type 0
IsUnfinished (Finished rest) = ⊥
IsUnfinished _ = Unit {0}

-- the reply that stands
abbrev pub standing : Stage → Option Pending
standing (Replying p) = Some p
standing _ = None

-- the bytes that were read behind a handshake's head, once its reply is written
abbrev pub rest_of : Stage → List ℕ
rest_of (Finished rest) = rest
rest_of _ = []

-- the stage with more bytes read, where no reply stands
abbrev pub fed : List ℕ → Stage → Stage
fed read (Reading f) = Reading (record { bytes = f.bytes ++ read; since = f.since })
fed read stage = stage

-- ---- reading

-- a turn that can't read: the link has ended, or failed
abbrev pub CannotRead : ExTurn → Type 0
CannotRead Peer = Unit {0}
CannotRead Fault = Unit {0}
CannotRead _ = ⊥

-- nothing was read, asked or replied
abbrev pub IsUnread : Course → Type 0
IsUnread c = (c.read ≡ []) × (c.asked ≡ []) × (c.reply ≡ None)

-- The bytes that are read, and the reply that stands then. So many are read at most, and all that came are judged, unless the
-- link has ended or failed. Where a reply stands already, none is read.
abbrev pub Reads : Serving → Stage → Course → ExTurn → Type 0
Reads s (Reading f) c result =
    (length c.read ≤ MOST_READ)
    × (ComesTo s (f.bytes ++ c.read) (is_late f.since s.now) c.asked c.reply ⊎ (CannotRead result × IsUnread c))
Reads s (Replying p) c result = (c.read ≡ []) × (c.asked ≡ []) × (c.reply ≡ Some p)
Reads s (Finished rest) c result = ⊥

-- ---- writing

-- the bytes behind a handshake's head
abbrev pub behind : After → List ℕ
behind Close = []
behind (Upgraded target rest) = rest

-- the stage of a reply of which this is left
abbrev pub stage_of : List ℕ → After → Stage
stage_of [] after = Finished (behind after)
stage_of left after = Replying (record { left = left; after = after })

-- the reply that stands is what is written of it and what is left, and this is the stage then
abbrev pub Writes : Course → Option Pending → Stage → Stage → Type 0
Writes c None old new = (c.written ≡ []) × (c.left ≡ []) × (new ≡ fed c.read old)
Writes c (Some p) old new = (p.left ≡ c.written ++ c.left) × (new ≡ stage_of c.left p.after)

-- ---- the answer

-- more turns may follow this answer
abbrev pub HasMore : ExTurn → Type 0
HasMore Moved = Unit {0}
HasMore Idle = Unit {0}
HasMore _ = ⊥

-- the whole reply was written, and this follows it
abbrev pub HasWrittenAll : After → Course → Stage → Type 0
HasWrittenAll after c new = (p : Pending) × (c.reply ≡ Some p) × (p.after ≡ after) × (c.written ≡ p.left) × (new ≡ Finished (behind after))

-- bytes were read or written, or a reply was made
abbrev pub HasMoved : Stage → Course → Type 0
HasMoved old c = (c.read ≢ []) ⊎ ((c.written ≢ []) ⊎ (c.reply ≢ standing old))

-- no byte was read or written, and no reply was made
abbrev pub HasRested : Stage → Course → Type 0
HasRested old c = (c.read ≡ []) × (c.written ≡ []) × (c.reply ≡ standing old)

abbrev pub IsAnswer : Course → Scene → Scene → ExTurn → Type 0
IsAnswer c old new Moved =
    IsUnfinished new.stage × HasMoved old.stage c × (c.reply ≢ None → Rose old.link.counts.stalls new.link.counts.stalls)
IsAnswer c old new Idle = IsUnfinished new.stage × HasRested old.stage c
IsAnswer c old new (Upgrade target) = (rest : List ℕ) × HasWrittenAll (Upgraded target rest) c new.stage
IsAnswer c old new Done = HasWrittenAll Close c new.stage
IsAnswer c old new Peer = c.reply ≡ None
IsAnswer c old new Fault = IsUnfinished new.stage

-- ---- the turn

-- The turn takes this course, and has this answer.
pub record TakesCourse (s : Serving) (c : Course) (old new : Scene) (result : ExTurn) : Type 0 where
  -- the link gives the bytes that are read, and then takes those that are written
  pub gives : LinkMoves old.link c.link c.read []
  pub takes : LinkMoves c.link new.link [] c.written
  -- the reply that stands, by all bytes that were read
  pub reads : Reads s old.stage c result
  -- the caller's own entries are those of the asks
  pub calls : Makes c.asked old.desk new.desk
  -- what is written of the reply, and how the exchange is then
  pub writes : Writes c c.reply old.stage new.stage
  -- some of it is left only where the link asked for patience or failed as it was written
  pub unwritten : c.left ≢ [] → Rose c.link.counts.stalls new.link.counts.stalls ⊎ Rose c.link.counts.faults new.link.counts.faults
  pub answer : IsAnswer c old new result
  pub cause : TurnHasCause result old.link.counts new.link.counts
