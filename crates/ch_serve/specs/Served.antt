-- What a server's threads did, once they have ended and the house is closed.
use Rattle.std.specs.Prelude.{◌≡◌, ◌≤◌, ◌+◌, ◌*◌, ℕ, List, length, Option, Some, None, All, slice_get, slice_index_or, MatchOption}
use Rattle.ch_config.specs.declared.config.Config.{Config}
use Rattle.ch_desk.specs.Views.{IsDeskOf}
use Rattle.ch_house.specs.Closes.{ClosedModel, ChanClosed, UserClosed}
use Rattle.ch_house.specs.DeskViews.{view_of}
use Rattle.ch_house.specs.Houses.{HouseModel, PassesModel, chan_count, user_count, fresh_passes}
use Rattle.ch_house.specs.declared.counts.ShardCount.{ShardCount}
use Rattle.ch_io.specs.Counts.{raised}
use Rattle.ch_webhooks.specs.Batching.{Batching, nothing_yet}
use Rattle.ch_worker.specs.Runs.{Took, TakesTurns}
use Rattle.ch_worker.specs.Turns.{Scene}
use Rattle.ch_worker.specs.Workers.{WorkerView, new_worker}
use Rattle.ch_serve.specs.Webhooks.{Drops, Gathers, sender_of}

-- a worker, and the passes of its caller at its desk in the house
pub record Seat : Type 0 where
  pub worker : WorkerView
  pub passes : PassesModel

abbrev pub seat : WorkerView → PassesModel → Seat
seat worker passes = record { worker = worker; passes = passes }

-- a worker at its desk
abbrev pub scene_of : Seat → Scene
scene_of s = record { worker = s.worker; desk = view_of s.passes }

-- its desk has the shards of its configuration
abbrev pub IsSeated : Seat → Type 0
IsSeated s = IsDeskOf s.worker.clients.config (view_of s.passes)

-- a worker took so many turns at its desk, one after another, and stays there
pub record Turned (turns : ℕ) (old new : Seat) : Type 0 where
  pub took : List Took
  pub count : length took ≡ turns
  pub each : TakesTurns took (scene_of old) (scene_of new)
  pub house : new.passes.house ≡ old.passes.house
  pub caller : new.passes.caller ≡ old.passes.caller
  pub turns_now : new.worker.turns ≡ raised old.worker.turns turns

-- so did each of them
abbrev pub AllTurned : ℕ → List Seat → List Seat → Type 0
AllTurned turns old new = (length new ≡ length old)
    × ((i : ℕ) (s t : Seat) → slice_get old i ≡ Some s → slice_get new i ≡ Some t → Turned turns s t)

-- the house has the shards of the configuration, and a caller for each worker and one for the webhook thread
pub record IsShardedBy (config : Config) (house : HouseModel) : Type 0 where
  pub chans : chan_count house ≡ config.chan_shards
  pub users : user_count house ≡ config.user_shards
  pub callers : house.chans.callers ≡ config.workers + 1

module _ {P : Type 0} where
  -- what the webhook thread did: where there is a post, it made batches of all events that it took, and else it dropped them
  abbrev pub WebhooksRan : Option P → Config → ℕ → ℕ → PassesModel → PassesModel → Type 0
  WebhooksRan post config start turns first last = MatchOption post
      (Drops turns (view_of first) (view_of last))
      (λ p. (left : Batching) × Gathers (view_of first) (view_of last) (nothing_yet (sender_of config start)) left)

-- each shard has at least so many entries
abbrev pub EachHas : ℕ → List ShardCount → Type 0
EachHas entries counts = All (λ n. entries ≤ n.entries) counts

-- What the workers and the webhook thread did at the house: each is the caller with its number, which had seen nothing, and
-- gave its passes back.
pub record Worked (config : Config) (turns : ℕ) (house : HouseModel) (start : ℕ) (workers : List WorkerView) (passes : List (Option PassesModel))
    (Webhooks : PassesModel → PassesModel → Type 0) : Type 0 where
  -- each worker took its turns
  pub count : length workers ≡ config.workers
  pub each : (i : ℕ) (w : WorkerView) → slice_get workers i ≡ Some w
      → (last : PassesModel) × (slice_index_or passes i None ≡ Some last)
      × Turned turns (seat (new_worker config start) (fresh_passes house i)) (seat w last)
  -- and the webhook thread its rounds, as the last caller
  pub webhooks : (last : PassesModel) × (slice_index_or passes config.workers None ≡ Some last)
      × Webhooks (fresh_passes house config.workers) last

-- What is true where a server ended well, of its workers and the closed house.
module _ {P : Type 0} where
  pub record Served (config : Config) (turns : ℕ) (post : Option P) (workers : List WorkerView) (closed : ClosedModel) : Type 0 where
    -- the second of the start, the house, and the passes that were given back
    pub start : ℕ
    pub house : HouseModel
    pub sharded : IsShardedBy config house
    pub passes : List (Option PassesModel)
    pub worked : Worked config turns house start workers passes (WebhooksRan post config start turns)
    pub turns_now : All (λ w. w.turns ≡ turns) workers
    -- each shard has one history, which holds what each of them did there, once and in its order, and nothing else
    pub chans : (k : ℕ) (n : ShardCount) → slice_get closed.chans k ≡ Some n → ChanClosed house passes k n
    pub users : (k : ℕ) (n : ShardCount) → slice_get closed.users k ≡ Some n → UserClosed house passes k n
    -- and an entry for each worker's Take in each turn, and for each TakeHooks of the webhook thread
    pub chan_shards : length closed.chans ≡ config.chan_shards
    pub chan_entries : EachHas (config.workers * turns + turns) closed.chans
    pub user_shards : length closed.users ≡ config.user_shards
    pub user_entries : EachHas (config.workers * turns) closed.users
