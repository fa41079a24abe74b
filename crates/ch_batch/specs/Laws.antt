-- Laws of batches.
use Rattle.std.specs.Prelude.{◌≡◌, ℕ, ◌≤◌, ◌<◌, ◌==◌, true, false, List, [], ◌∷◌, ◌++◌, All, Result, length, map, filter_map, flat_map, if◌then◌else◌}
use Rattle.std.specs.List.{range_with_len}
use Rattle.ch_base.specs.declared.memory.Memory.{Memory}
use Rattle.ch_base.specs.declared.webhook.Hook.{Hook}
use Rattle.ch_history.specs.Laws.{Goes, counts_occupied, occupancy}
use Rattle.ch_history.specs.Placement.{shard_of}
use Rattle.ch_history.specs.Pending.{is_take_hooks, hook_list, since_take}
use Rattle.ch_protocol.specs.Asks.{Asked}
use Rattle.ch_protocol.specs.declared.ask.Ask.{Ask}
use Rattle.ch_protocol.specs.declared.ask.Ask.TheVariants.{Chan}
use Rattle.ch_protocol.specs.declared.ask.Made.{Made}
use Rattle.ch_desk.specs.OwnEntries.{Makes}
use Rattle.ch_desk.specs.Views.{DeskView, IsLegalDesk}
use Rattle.ch_webhooks.specs.declared.limits.TheConstants.{BATCH_EVENTS}
use Rattle.ch_webhooks.specs.declared.batch.Sender.{Sender}
use Rattle.ch_batch.specs.declared.step.Step.{Step}
use Rattle.ch_webhooks.specs.Batches.{Content, batch_of}
use Rattle.ch_webhooks.specs.Batching.{Batching, nothing_yet}
use Rattle.ch_batch.specs.Deeds.{Deed, steps, accepted, after_all, gone, made}
use Rattle.ch_batch.specs.Gathers.{IsGathered, events_of, taken}
use Rattle.ch_batch.specs.Steps.{after_step}

-- ---- one batcher

-- the events of batches, in the order of their numbers
abbrev pub events_in_all : List Content → List Hook
events_in_all contents = flat_map (λ c. c.events) contents

-- a batch has 1 to `BATCH_EVENTS` events
pub record IsFilled (c : Content) : Type 0 where
  pub some : 1 ≤ length c.events
  pub few : length c.events ≤ BATCH_EVENTS

-- What is true of a new batcher after all that happened to it.
pub record PartsEvents (sender : Sender) (deeds : List Deed) : Type 0 where
  -- the events of all batches, and those that aren't cut yet, are the events that were accepted, each once
  pub events : events_in_all (made (nothing_yet sender) deeds) ++ (after_all (nothing_yet sender) deeds).uncut ≡ accepted deeds
  -- batches are numbered from 1
  pub numbers : map (λ c. c.number) (made (nothing_yet sender) deeds) ≡ range_with_len 1 (length (made (nothing_yet sender) deeds))
  pub filled : All IsFilled (made (nothing_yet sender) deeds)
  -- each batch that was made is gone or waits, in the order of their numbers
  pub batches : map (batch_of sender) (made (nothing_yet sender) deeds)
      ≡ gone (nothing_yet sender) deeds ++ map (λ w. w.batch) (after_all (nothing_yet sender) deeds).waiting

-- the law of batches
abbrev pub BatchesLaw : Type 0
BatchesLaw = (sender : Sender) (deeds : List Deed) → PartsEvents sender deeds

-- ---- a batcher at its caller's desk

-- what a batcher did together with its caller's desk: the events that it accepted are those that came of the asks
pub record Collects (asked : List Asked) (deeds : List Deed) (old new : DeskView) (before now : Batching) : Type 0 where
  pub calls : Makes asked old new
  pub events : accepted deeds ≡ taken asked
  pub batching : now ≡ after_all before deeds

-- A gather collects, a step collects nothing, and what was collected one after another is joined.
pub record CollectsChain : Type 0 where
  pub gather : (asked : List Asked) (old new : DeskView) (before now : Batching) (moment : ℕ) (result : Result ℕ Memory) → Makes asked old new
      → IsGathered before moment old.chan_shards asked result now → (deeds : List Deed) × Collects asked deeds old new before now
  pub step : (answer : Step) (desk : DeskView) (before : Batching) → Collects [] (steps answer ∷ []) desk desk before (after_step before answer)
  pub chain : (xs ys : List Asked) (ds es : List Deed) (a b c : DeskView) (p q r : Batching) → Collects xs ds a b p q → Collects ys es b c q r
      → Collects (xs ++ ys) (ds ++ es) a c p r

-- nobody took webhook events from the desk's shards before, and nobody but its caller has since
pub record TakesAlone (old new : DeskView) : Type 0 where
  pub before : (k : ℕ) → k < old.chan_shards → All (λ e. is_take_hooks e.call ≡ false) (old.chans k)
  pub since : (k : ℕ) → k < old.chan_shards → All (λ e. is_take_hooks e.call ≡ true → e.caller ≡ old.caller) (new.chans k)

-- the events that came of an ask of the channel shard k
abbrev pub events_from : ℕ → Ask → Made → List Hook
events_from k (Chan shard call) came = if shard == k then events_of (Chan shard call) came else []
events_from k _ came = []

-- the events that came from the channel shard k
abbrev pub taken_from : ℕ → List Asked → List Hook
taken_from k asked = flat_map (λ x. events_from k x.ask x.came) asked

-- What is true of all webhook events of a new batcher that alone takes them, at the end of what it did.
pub record TellsHistories (sender : Sender) (asked : List Asked) (deeds : List Deed) (new : DeskView) : Type 0 where
  -- the events of all batches, and those that aren't cut yet, are those that were taken
  pub taken : events_in_all (made (nothing_yet sender) deeds) ++ (after_all (nothing_yet sender) deeds).uncut ≡ taken asked
  -- what was taken from a shard, and what waits there, are all events of its history, each once
  pub shards : (k : ℕ) → k < new.chan_shards → taken_from k asked ++ since_take (new.chans k) ≡ hook_list (new.chans k)
  -- Occupied and Vacated of a channel alternate over all batches, what isn't cut yet and what waits on the channel's shard, and
  -- end at whether a socket is subscribed or the channel's vacated notice is held
  pub occupancy : (c : List ℕ) → Goes false (counts_occupied (new.chans (shard_of c new.chan_shards)) c)
      (filter_map (occupancy c) (events_in_all (made (nothing_yet sender) deeds) ++ (after_all (nothing_yet sender) deeds).uncut
      ++ since_take (new.chans (shard_of c new.chan_shards))))

-- the law of webhooks
abbrev pub WebhooksLaw : Type 0
WebhooksLaw = (sender : Sender) (asked : List Asked) (deeds : List Deed) (old new : DeskView) (now : Batching) → 1 ≤ old.chan_shards
    → Collects asked deeds old new (nothing_yet sender) now → IsLegalDesk new → TakesAlone old new → TellsHistories sender asked deeds new
