-- What a whole request comes to at a desk.
use Rattle.std.specs.Prelude.{◌≡◌, ◌⊎◌, ℕ, List, [], ◌++◌, All, Option, MatchBool, Result, Ok, Err, OnOk}
use Rattle.ch_base.specs.declared.memory.Memory.{Memory}
use Rattle.ch_config.specs.declared.config.Config.{Config}
use Rattle.ch_desk.specs.OwnEntries.{IsAnswered}
use Rattle.ch_protocol.specs.Asks.{Asked, asks_of, came_of}
use Rattle.ch_protocol.specs.declared.ask.Ask.{Ask}
use Rattle.ch_protocol.specs.declared.ask.Made.{Made}
use Rattle.ch_requests.specs.Authorization.{is_authorized}
use Rattle.ch_requests.specs.Plans.{planned}
use Rattle.ch_requests.specs.Replies.{reply_to}
use Rattle.ch_requests.specs.Triggers.{ReadsBody}
use Rattle.ch_requests.specs.declared.plan.Planned.{Planned}
use Rattle.ch_requests.specs.declared.plan.Planned.TheVariants.{Answer, Ask as AskPlan}
use Rattle.ch_requests.specs.declared.reply.Reply.{Reply}
use Rattle.ch_requests.specs.declared.request.Request.{Request}
use Rattle.ch_requests.specs.declared.trigger.Trigger.{Trigger}

-- the server of an app at a moment: its configuration, and the second of its start
pub record Serving : Type 0 where
  pub config : Config
  pub start : ℕ
  pub now : ℕ

-- the body of the request, where it is authorized, triggers these events, or has a fault
abbrev pub ReadsEvents : Serving → Request → Option (List Trigger) → Type 0
ReadsEvents s q events = MatchBool (is_authorized s.config q s.now) (ReadsBody q.route q.body events) (Unit {0})

-- the calls that a plan asks for
abbrev pub plan_asks : Planned → List Ask
plan_asks (Answer reply) = []
plan_asks (AskPlan plan) = plan.asks

-- the reply of a plan, by what came of its calls
abbrev pub plan_reply : List Made → Planned → Reply
plan_reply answers (Answer reply) = reply
plan_reply answers (AskPlan plan) = reply_to plan answers

-- all calls were made and answered, and this is the reply; or the first of them were made, and then there was no memory
abbrev pub IsPlanAnswer : Planned → List Asked → Result Reply Memory → Type 0
IsPlanAnswer plan asked (Ok reply) =
    (asks_of asked ≡ plan_asks plan) × All IsAnswered asked × (reply ≡ plan_reply (came_of asked) plan)
IsPlanAnswer plan asked (Err m) = (rest : List Ask) × (plan_asks plan ≡ asks_of asked ++ rest)

-- the request was planned by some reading of its body, and its plan was answered; or there was no memory for a plan
abbrev pub IsAnswer : Serving → Request → List Asked → Result Reply Memory → Type 0
IsAnswer s q asked result =
    ((events : Option (List Trigger)) × ReadsEvents s q events × IsPlanAnswer (planned s.config s.start q s.now events) asked result)
    ⊎ ((asked ≡ []) × OnOk result ⊥)
