-- What the bytes of an exchange come to.
use Rattle.std.specs.Prelude.{◌≡◌, ◌⊎◌, ℕ, ◌+◌, nat_le, Bool, List, [], ◌++◌, All, drop, Option, Some, None}
use Rattle.ch_answer.specs.Answers.{Serving, ReadsEvents, plan_asks, plan_reply}
use Rattle.ch_desk.specs.OwnEntries.{IsAnswered}
use Rattle.ch_protocol.specs.Asks.{Asked, asks_of, came_of}
use Rattle.ch_protocol.specs.declared.ask.Ask.{Ask}
use Rattle.ch_protocol.specs.declared.ask.Made.{Made}
use Rattle.ch_requests.specs.declared.limits.TheConstants.{LONGEST_WAIT}
use Rattle.ch_requests.specs.Handshakes.{shaken}
use Rattle.ch_requests.specs.Plans.{planned}
use Rattle.ch_requests.specs.Replies.{refusal}
use Rattle.ch_requests.specs.Verdict.{IsVerdict}
use Rattle.ch_requests.specs.declared.handshake.Shake.{Shake}
use Rattle.ch_requests.specs.declared.handshake.Shake.TheVariants as shake
use Rattle.ch_requests.specs.declared.plan.Planned.{Planned}
use Rattle.ch_requests.specs.declared.request.Look.{Look}
use Rattle.ch_requests.specs.declared.request.Look.TheVariants.{Need, Upgrade, Ready, Refuse}
use Rattle.ch_requests.specs.declared.request.Request.{Request}
use Rattle.ch_requests.specs.declared.trigger.Trigger.{Trigger}
use Rattle.ch_exchange.specs.Pending.{Pending, closing, out_of_memory}
use Rattle.ch_exchange.specs.declared.pending.After.TheVariants.{Close, Upgrade as Upgraded}

-- ---- what bytes mean

-- whether the time of a request is over whose exchange began at a moment
abbrev pub is_late : ℕ → ℕ → Bool
is_late since now = nat_le (since + LONGEST_WAIT) now

-- what the bytes are, and which events the body of a request triggers, if it has no fault
pub record Sense : Type 0 where
  pub look : Look
  pub events : Option (List Trigger)

-- the body of a whole request is read so
abbrev pub ReadsRequest : Serving → Look → Option (List Trigger) → Type 0
ReadsRequest s (Ready q) events = ReadsEvents s q events
ReadsRequest s _ events = Unit {0}

-- the bytes mean this; late: whether the time of the request is over
pub record Means (s : Serving) (bytes : List ℕ) (late : Bool) (sense : Sense) : Type 0 where
  pub verdict : IsVerdict s.config.app_id bytes late sense.look
  pub body : ReadsRequest s sense.look sense.events

-- ---- the calls that they ask for

-- what is done with a whole request
abbrev pub plan_of : Serving → Option (List Trigger) → Request → Planned
plan_of s events q = planned s.config s.start q s.now events

abbrev pub look_asks : Serving → Option (List Trigger) → Look → List Ask
look_asks s events (Ready q) = plan_asks (plan_of s events q)
look_asks s events _ = []

abbrev pub asks_for : Serving → Sense → List Ask
asks_for s sense = look_asks s sense.events sense.look

-- ---- the reply, by the answers to these calls

-- the reply to a handshake; rest: the bytes behind its head
abbrev pub shake_reply : List ℕ → Shake → Pending
shake_reply rest (shake.Upgrade reply target) = record { left = reply; after = Upgraded target rest }
shake_reply rest (shake.Refuse reply) = record { left = reply; after = Close }

-- none where more bytes are wanted
abbrev pub look_reply : Serving → List ℕ → Option (List Trigger) → List Made → Look → Option Pending
look_reply s bytes events answers Need = None
look_reply s bytes events answers (Upgrade head) = Some (shake_reply (drop head.used bytes) (shaken head))
look_reply s bytes events answers (Ready q) = Some (closing (plan_reply answers (plan_of s events q)))
look_reply s bytes events answers (Refuse status) = Some (closing (refusal status))

abbrev pub reply_by : Serving → List ℕ → Sense → List Made → Option Pending
reply_by s bytes sense answers = look_reply s bytes sense.events answers sense.look

-- ---- what came of them

-- all calls that the bytes ask for were made and answered, and the reply is by their answers
pub record Replies (s : Serving) (bytes : List ℕ) (late : Bool) (asked : List Asked) (reply : Option Pending) : Type 0 where
  pub sense : Sense
  pub means : Means s bytes late sense
  pub asks : asks_of asked ≡ asks_for s sense
  pub answered : All IsAnswered asked
  pub is : reply ≡ reply_by s bytes sense (came_of asked)

-- the first of the calls that the bytes ask for were made
pub record AreBegun (s : Serving) (bytes : List ℕ) (late : Bool) (asked : List Asked) : Type 0 where
  pub sense : Sense
  pub means : Means s bytes late sense
  pub rest : List Ask
  pub asks : asks_for s sense ≡ asks_of asked ++ rest

-- memory ran out, before a call was made or later, and the reply says so
pub record RunsOut (s : Serving) (bytes : List ℕ) (late : Bool) (asked : List Asked) (reply : Option Pending) : Type 0 where
  pub is : reply ≡ Some out_of_memory
  pub calls : (asked ≡ []) ⊎ AreBegun s bytes late asked

abbrev pub ComesTo : Serving → List ℕ → Bool → List Asked → Option Pending → Type 0
ComesTo s bytes late asked reply = Replies s bytes late asked reply ⊎ RunsOut s bytes late asked reply
