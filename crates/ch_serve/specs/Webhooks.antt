-- What the webhook thread does at its desk.
use Rattle.std.specs.Prelude.{◌≡◌, ℕ, List, Option, Some, None, MatchOption, flat_map, length}
use Rattle.ch_batch.specs.Deeds.{Deed}
use Rattle.ch_batch.specs.Gathers.{takes}
use Rattle.ch_batch.specs.Laws.{Collects}
use Rattle.ch_config.specs.declared.config.Config.{Config}
use Rattle.ch_desk.specs.OwnEntries.{Makes}
use Rattle.ch_desk.specs.Views.{DeskView}
use Rattle.ch_house.specs.DeskViews.{view_of}
use Rattle.ch_house.specs.Houses.{PassesModel}
use Rattle.ch_protocol.specs.Asks.{Asked, asks_of}
use Rattle.ch_webhooks.specs.Batching.{Batching, nothing_yet}
use Rattle.ch_webhooks.specs.declared.batch.Sender.{Sender}
use Rattle.ch_serve.specs.declared.posting.Sending.{Sending}

-- it took webhook events and made batches of them: what a batcher does one thing after another
pub record Gathers (old new : DeskView) (before now : Batching) : Type 0 where
  pub asked : List Asked
  pub deeds : List Deed
  pub collects : Collects asked deeds old new before now

-- it took the webhook events of each channel shard, ascending, at so many moments, and dropped them
pub record Drops (rounds : ℕ) (old new : DeskView) : Type 0 where
  pub asked : List Asked
  pub moments : List ℕ
  pub count : length moments ≡ rounds
  pub asks : asks_of asked ≡ flat_map (λ now. takes now old.chan_shards) moments
  pub calls : Makes asked old new

-- who sends the webhooks of a configuration's app
abbrev pub sender_of : Config → ℕ → Sender
sender_of config start = record { key = config.key; secret = config.secret; start = start }

module _ {P : Type 0} where
  -- the webhook thread's rounds at its desk, where it stays: with a batcher it made batches, without it dropped the events
  pub record Rounds (rounds : ℕ) (sending : Option (Sending P)) (desk desk_after : PassesModel) : Type 0 where
    pub did : MatchOption sending (Drops rounds (view_of desk) (view_of desk_after))
        (λ s. (left : Batching) × Gathers (view_of desk) (view_of desk_after) s.batcher.state left)
    pub house : desk_after.house ≡ desk.house
    pub caller : desk_after.caller ≡ desk.caller

  -- there is a new batcher of the configuration's app exactly where there is a post
  abbrev pub SendsFor : Config → ℕ → Option P → Option (Sending P) → Type 0
  SendsFor config start post sending = MatchOption post (sending ≡ None)
      (λ p. (s : Sending P) × (sending ≡ Some s) × (s.batcher.state ≡ nothing_yet (sender_of config start)))
