-- What a session keeps, and for which settled asks it stands.
use Rattle.std.specs.Prelude.{◌≡◌, ◌+◌, ◌-◌, ◌<◌, ◌≤◌, ℕ, List, [], ◌∷◌, length, All}
use Rattle.ch_config.specs.declared.limits.TheConstants.{MAX_SHARDS}
use Rattle.ch_config.specs.declared.config.Config.{Config}
use Rattle.ch_history.specs.Limits.{IsSocket}
use Rattle.ch_rate.specs.Quiet.{Quiet}
use Rattle.ch_protocol.specs.Sessions.{outcome}
use Rattle.ch_protocol.specs.Settling.{SettledAsk, settled_with}
use Rattle.ch_protocol.specs.declared.ask.Ask.{Ask}
use Rattle.ch_protocol.specs.declared.ask.Made.{Made}
use Rattle.ch_protocol.specs.declared.heard.Settled.{Settled}
use Rattle.ch_protocol.specs.declared.heard.Settled.TheVariants.{Refuse, End}
use Rattle.ch_session.specs.declared.waiting.Waiting.{Waiting}
use Rattle.ch_session.specs.declared.waiting.Waiting.TheVariants.{Nothing, Join, Call, SignIn, Watches}
use Rattle.ch_session.specs.Losses.{losses_from, loss_at}
use Rattle.ch_protocol.specs.Asks.{ComesOf}
use Rattle.ch_protocol.specs.declared.limits.TheConstants.{MAX_SUBSCRIPTIONS}
use Rattle.ch_session.specs.Told.{Told, IsToldBy, uses_place}
use Rattle.ch_session.specs.Waits.{Awaits, HoldsData}

-- What a session keeps: the second of the server's start, its number, the number of channel shards, what its settled asks
-- have told it, what waits to be settled, its silence, and the place in the row of shards below which each loss was made.
pub record Kept : Type 0 where
  pub start : ℕ
  pub number : ℕ
  pub chans : ℕ
  pub told : Told
  pub waits : Waiting
  pub quiet : Quiet
  pub lost : ℕ

-- the session of this start second and number stands for these settled asks
pub record IsSession (s : Kept) (start number : ℕ) (asks : List SettledAsk) : Type 0 where
  pub started : s.start ≡ start
  pub numbered : s.number ≡ number
  pub tells : IsToldBy asks s.chans s.told

-- the session is over the shards of the configuration
pub record HasShardsOf (s : Kept) (config : Config) : Type 0 where
  pub chans : s.chans ≡ config.chan_shards
  pub shards : length s.told.used ≡ config.chan_shards + config.user_shards

-- ---- settling

-- this may settle the next ask that waits, which is at the place of its message
pub record MaySettle (waits : Waiting) (place : ℕ) (made : Made) : Type 0 where
  pub ask : Ask
  pub asks : List Ask
  pub awaits : Awaits waits place (ask ∷ asks)
  pub comes : ComesOf ask made

-- the asks that still wait after one was settled: none after a refusal or an end
abbrev pub left_after : Settled → List Ask → List Ask
left_after (Refuse code) asks = []
left_after (End code) asks = []
left_after _ asks = asks

-- The ask at the place of its message was settled by what came of it: this is what it means for the socket, the session
-- stands for this ask too, and the others still wait.
pub record IsSettled (old new : Kept) (place : ℕ) (ask : Ask) (asks : List Ask) (made : Made) (now : ℕ) (result : Settled) : Type 0 where
  pub meaning : (user_data : List ℕ) → HoldsData old.waits user_data → result ≡ outcome user_data place made
  pub stands : (start number : ℕ) (settled : List SettledAsk) → IsSession old start number settled → IsSession new start number (settled_with settled ask made now)
  pub waits : Awaits new.waits (place + 1) (left_after result asks)

-- ---- losses

-- the losses that are still to be made, with the moment now
abbrev pub losses_left : Kept → List SettledAsk → ℕ → List Ask
losses_left s asks now = losses_from (uses_place s.chans asks) (loss_at s.chans s.number now) (length s.told.used - s.lost) s.lost

-- ---- what holds of every session

-- the asks that wait are on shards that there are, and a Join waits only where there may be one more subscription
abbrev pub IsFit : Told → ℕ → Waiting → Type 0
IsFit told chans Nothing = told.subscriptions ≤ MAX_SUBSCRIPTIONS
IsFit told chans (Join shard) = (told.subscriptions < MAX_SUBSCRIPTIONS) × (shard < chans)
IsFit told chans (Call shard) = (told.subscriptions ≤ MAX_SUBSCRIPTIONS) × (shard < chans)
IsFit told chans (SignIn shard user user_data watches) =
    (told.subscriptions ≤ MAX_SUBSCRIPTIONS) × (chans + shard < length told.used) × All (λ k. chans + k < length told.used) watches
IsFit told chans (Watches shards) = (told.subscriptions ≤ MAX_SUBSCRIPTIONS) × All (λ k. chans + k < length told.used) shards

-- there is a channel shard, the numbers are within their bounds, and what waits is fit
abbrev pub IsSoundSession : Kept → Type 0
IsSoundSession s = (1 ≤ s.chans) × (s.chans ≤ length s.told.used) × (length s.told.used ≤ MAX_SHARDS + MAX_SHARDS) × IsSocket s.number × IsFit s.told s.chans s.waits
