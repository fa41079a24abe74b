-- All turns of an exchange.
use Rattle.std.specs.Prelude.{◌≡◌, ◌⊎◌, ℕ, false, List, [], ◌++◌, Some}
use Rattle.ch_config.specs.declared.config.Config.{Config}
use Rattle.ch_protocol.specs.Asks.{Asked}
use Rattle.ch_requests.specs.Verdict.{IsVerdict}
use Rattle.ch_requests.specs.declared.request.Look.TheVariants.{Need}
use Rattle.ch_exchange.specs.Answers.{ComesTo, is_late}
use Rattle.ch_exchange.specs.Pending.{Pending}
use Rattle.ch_exchange.specs.Turns.{Course, Scene, TakesCourse, behind}
use Rattle.ch_exchange.specs.declared.pending.After.{After}
use Rattle.ch_exchange.specs.declared.stage.Stage.{Stage}
use Rattle.ch_exchange.specs.declared.stage.Stage.TheVariants.{Reading, Replying, Finished}
use Rattle.ch_exchange.specs.declared.turn.ExTurn.{ExTurn}

-- what an exchange did since the moment at which it was made: the bytes that it read, the asks that it made, each with what
-- came of it, and the bytes that it wrote
pub record Story : Type 0 where
  pub since : ℕ
  pub read : List ℕ
  pub asked : List Asked
  pub written : List ℕ

-- nothing yet
abbrev pub beginning : ℕ → Story
beginning since = record { since = since; read = []; asked = []; written = [] }

-- with one more turn
abbrev pub and_then : Story → Course → Story
and_then t c = record { since = t.since; read = t.read ++ c.read; asked = t.asked ++ c.asked; written = t.written ++ c.written }

-- no byte was read yet, or more are wanted
abbrev pub WantsMore : Config → Story → Type 0
WantsMore config t = (t.read ≡ []) ⊎ IsVerdict config.app_id t.read false Need

-- One reply was made, at some moment, to all bytes that were read, by the answers to all asks that were made: what was written
-- is a front of it, and this is left.
pub record HasReply (config : Config) (start : ℕ) (t : Story) (left : List ℕ) (after : After) : Type 0 where
  pub now : ℕ
  pub reply : Pending
  pub comes : ComesTo (record { config = config; start = start; now = now }) t.read (is_late t.since now) t.asked (Some reply)
  pub bytes : reply.left ≡ t.written ++ left
  pub follows : reply.after ≡ after

-- an exchange that did this is at this stage
abbrev pub IsAt : Config → ℕ → Story → Stage → Type 0
IsAt config start t (Reading f) =
    (f ≡ record { bytes = t.read; since = t.since }) × (t.asked ≡ []) × (t.written ≡ []) × WantsMore config t
IsAt config start t (Replying p) = HasReply config start t p.left p.after
IsAt config start t (Finished rest) = (after : After) × HasReply config start t [] after × (rest ≡ behind after)

-- a new exchange did nothing yet
abbrev pub Begins : Type 0
Begins = (config : Config) (start since : ℕ) → IsAt config start (beginning since) (Reading (record { bytes = []; since = since }))

-- a turn adds its course to what was done
abbrev pub GoesOn : Type 0
GoesOn =
    (config : Config) (start now : ℕ) (t : Story) (c : Course) (old new : Scene) (result : ExTurn) → IsAt config start t old.stage
    → TakesCourse (record { config = config; start = start; now = now }) c old new result → IsAt config start (and_then t c) new.stage
