-- All that happens to a batcher, one thing after another: the batches that are made, and those that go.
use Rattle.std.specs.Prelude.{ℕ, List, [], ◌∷◌, ◌++◌, flat_map}
use Rattle.ch_base.specs.declared.webhook.Hook.{Hook}
use Rattle.ch_webhooks.specs.declared.batch.Batch.{Batch}
use Rattle.ch_webhooks.specs.declared.batch.Waiting.{Waiting}
use Rattle.ch_batch.specs.declared.step.Step.{Step}
use Rattle.ch_batch.specs.declared.step.Step.TheVariants.{Sent, GaveUp}
use Rattle.ch_webhooks.specs.Batches.{Content}
use Rattle.ch_webhooks.specs.Batching.{Batching, after_cut, cut_now, with_events}
use Rattle.ch_batch.specs.Steps.{after_step}

-- events are accepted, a cut is made at a moment, or a step has an answer
pub data Deed : Type 0 where
  accepts : List Hook → Deed
  cuts : ℕ → Deed
  steps : Step → Deed

-- a batcher after that
abbrev pub after : Batching → Deed → Batching
after b (accepts events) = with_events b events
after b (cuts now) = after_cut b now
after b (steps answer) = after_step b answer

abbrev pub after_all : Batching → List Deed → Batching
after_all b [] = b
after_all b (d ∷ deeds) = after_all (after b d) deeds

-- the events that come in
abbrev pub accepted_by : Deed → List Hook
accepted_by (accepts events) = events
accepted_by _ = []

abbrev pub accepted : List Deed → List Hook
accepted deeds = flat_map accepted_by deeds

-- the batches that are made
abbrev pub made_by : Batching → Deed → List Content
made_by b (cuts now) = cut_now b now
made_by b _ = []

abbrev pub made : Batching → List Deed → List Content
made b [] = []
made b (d ∷ deeds) = made_by b d ++ made (after b d) deeds

-- the batch that goes at a step: it was sent, or given up
abbrev pub first_batch : List Waiting → List Batch
first_batch [] = []
first_batch (w ∷ others) = w.batch ∷ []

abbrev pub gone_by : Batching → Deed → List Batch
gone_by b (steps (Sent number)) = first_batch b.waiting
gone_by b (steps (GaveUp number)) = first_batch b.waiting
gone_by b _ = []

abbrev pub gone : Batching → List Deed → List Batch
gone b [] = []
gone b (d ∷ deeds) = gone_by b d ++ gone (after b d) deeds
