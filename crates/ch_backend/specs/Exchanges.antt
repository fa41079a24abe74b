-- What the bytes of a request did.
use Rattle.std.specs.Prelude.{◌≡◌, ◌⊎◌, ℕ, ◌++◌, false, List, [], Option, MatchBool, Result}
use Rattle.ch_answer.specs.Answers.{IsAnswer}
use Rattle.ch_base.specs.declared.memory.Memory.{Memory}
use Rattle.ch_config.specs.declared.config.Config.{Config}
use Rattle.ch_desk.specs.AloneCalls.{IsAt}
use Rattle.ch_desk.specs.OwnEntries.{Makes}
use Rattle.ch_desk.specs.Views.{DeskView}
use Rattle.ch_protocol.specs.Asks.{Asked}
use Rattle.ch_requests.specs.Authorization.{is_authorized}
use Rattle.ch_requests.specs.Plans.{planned}
use Rattle.ch_requests.specs.Triggers.{ReadsBody}
use Rattle.ch_requests.specs.Verdict.{IsVerdict}
use Rattle.ch_requests.specs.declared.reply.Reply.{Reply}
use Rattle.ch_requests.specs.declared.request.Look.{Look}
use Rattle.ch_requests.specs.declared.request.Look.TheVariants.{Ready}
use Rattle.ch_requests.specs.declared.request.Request.{Request}
use Rattle.ch_requests.specs.declared.trigger.Trigger.{Trigger}
use Rattle.ch_transcript.specs.declared.start.TheConstants.{START_SECOND}
use Rattle.ch_protocol.specs.Shards.{Shards}
use Rattle.ch_transcript.specs.Exchanges.{Exchange, Comes, exchanges, answers}

-- what the bytes write, and how the shards are then
abbrev pub IsExchange : Config → ℕ → List ℕ → Shards → Exchange → Type 0
IsExchange config at bytes shards x =
    (look : Look) × (ts : Option (List Trigger)) × Comes config at bytes look ts × (x ≡ exchanges config at look ts shards)

-- one of these was done: its text is added to the output, and the desk has come so far
pub record Does (desk : DeskView) (old new : List ℕ) (Is : Exchange → Type 0) : Type 0 where
  pub exchange : Exchange
  pub is : Is exchange
  pub text : new ≡ old ++ exchange.text
  pub at_shards : IsAt desk exchange.shards

-- this was done: its text is added to the output, and the desk has come so far
pub record Writes (desk : DeskView) (old new : List ℕ) (x : Exchange) : Type 0 where
  pub text : new ≡ old ++ x.text
  pub at_shards : IsAt desk x.shards

-- a whole request was answered, by some reading of its body where it is authorized
pub record Answers (config : Config) (at : ℕ) (q : Request) (shards : Shards) (desk : DeskView) (old new : List ℕ) : Type 0 where
  pub events : Option (List Trigger)
  pub reads : MatchBool (is_authorized config q at) (ReadsBody q.route q.body events) (Unit {0})
  pub writes : Writes desk old new (answers shards (planned config START_SECOND q at events))

-- The caller's own calls are those of the request that the bytes are, in order, up to one that found no memory. There is none
-- where they are no whole request, or there was no memory to read them.
pub record MakesCalls (config : Config) (at : ℕ) (bytes : List ℕ) (old new : DeskView) : Type 0 where
  pub asked : List Asked
  pub makes : Makes asked old new
  pub are : (asked ≡ []) ⊎ ((q : Request) × (result : Result Reply Memory) × IsVerdict config.app_id bytes false (Ready q)
      × IsAnswer (record { config = config; start = START_SECOND; now = at }) q asked result)
