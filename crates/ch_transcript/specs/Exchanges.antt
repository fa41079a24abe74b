-- What the bytes of a request write, and how the shards are then.
use Rattle.std.specs.Prelude.{ℕ, false, List, Option, MatchBool}
use Rattle.ch_config.specs.declared.config.Config.{Config}
use Rattle.ch_protocol.specs.Shards.{Shards, made_of_all, after_asks}
use Rattle.ch_requests.specs.Authorization.{is_authorized}
use Rattle.ch_requests.specs.Handshakes.{handshake_key}
use Rattle.ch_requests.specs.Plans.{planned}
use Rattle.ch_requests.specs.Replies.{refusal, reply_to}
use Rattle.ch_requests.specs.Triggers.{ReadsBody}
use Rattle.ch_requests.specs.Verdict.{IsVerdict}
use Rattle.ch_requests.specs.declared.plan.Planned.{Planned}
use Rattle.ch_requests.specs.declared.plan.Planned.TheVariants.{Answer, Ask as AskPlan}
use Rattle.ch_requests.specs.declared.request.Look.{Look}
use Rattle.ch_requests.specs.declared.request.Look.TheVariants.{Need, Upgrade, Ready, Refuse}
use Rattle.ch_requests.specs.declared.trigger.Trigger.{Trigger}
use Rattle.ch_transcript.specs.Printing.{reply_line, shake_line, need_line}
use Rattle.ch_transcript.specs.declared.start.TheConstants.{START_SECOND}
use Rattle.ch_transcript.specs.Progress.{Progress, Played}

-- what a request writes, and how the shards are then
pub record Exchange : Type 0 where
  pub text : List ℕ
  pub shards : Shards

-- a request is refused, or its calls are made one after another and answered
abbrev pub answers : Shards → Planned → Exchange
answers shards (Answer reply) = record { text = reply_line reply; shards = shards }
answers shards (AskPlan plan) =
    record { text = reply_line (reply_to plan (made_of_all shards plan.asks)); shards = after_asks shards plan.asks }

-- what the bytes of a request write that are this, and whose body triggers these events, or has a fault
abbrev pub exchanges : Config → ℕ → Look → Option (List Trigger) → Shards → Exchange
exchanges config at Need ts shards = record { text = need_line; shards = shards }
exchanges config at (Upgrade head) ts shards = record { text = shake_line (handshake_key head); shards = shards }
exchanges config at (Ready q) ts shards = answers shards (planned config START_SECOND q at ts)
exchanges config at (Refuse status) ts shards = record { text = reply_line (refusal status); shards = shards }

abbrev pub of_exchange : Progress → Exchange → Played
of_exchange p x = record { text = x.text; next = record { at = p.at; sockets = p.sockets; shards = x.shards; webhooks = p.webhooks } }

-- the body of an authorized request is read so
abbrev pub ReadsRequest : Config → ℕ → Look → Option (List Trigger) → Type 0
ReadsRequest config at (Ready q) ts = MatchBool (is_authorized config q at) (ReadsBody q.route q.body ts) (Unit {0})
ReadsRequest config at _ ts = Unit {0}

-- the bytes are this, and the body of their request is read so; no time is over
pub record Comes (config : Config) (at : ℕ) (bytes : List ℕ) (look : Look) (ts : Option (List Trigger)) : Type 0 where
  pub verdict : IsVerdict config.app_id bytes false look
  pub body : ReadsRequest config at look ts
