-- What contracts see of a batcher, and what its calls make of that.
use Rattle.std.specs.Prelude.{ℕ, ◌+◌, nat_le, List, [], ◌++◌, map, if◌then◌else◌}
use Rattle.ch_base.specs.declared.webhook.Hook.{Hook}
use Rattle.ch_webhooks.specs.declared.limits.TheConstants.{GREATEST_NUMBER}
use Rattle.ch_webhooks.specs.declared.batch.Batch.{Batch}
use Rattle.ch_webhooks.specs.declared.batch.Sender.{Sender}
use Rattle.ch_webhooks.specs.declared.batch.Waiting.{Waiting}
use Rattle.ch_webhooks.specs.Batches.{Content, batch_of, contents, piece_count}

-- who sends, the events that were accepted and not cut yet, the batches that wait, the lowest first, and the next number
pub record Batching : Type 0 where
  pub sender : Sender
  pub uncut : List Hook
  pub waiting : List Waiting
  pub next : ℕ

-- a batcher, and for how many more lists of events it has room
pub record BatcherModel : Type 0 where
  pub state : Batching
  pub spare : ℕ

-- nothing was accepted yet, and the first batch will have the number 1
abbrev pub nothing_yet : Sender → Batching
nothing_yet sender = record { sender = sender; uncut = []; waiting = []; next = 1 }

-- these events were accepted too
abbrev pub with_events : Batching → List Hook → Batching
with_events b events = record { sender = b.sender; uncut = b.uncut ++ events; waiting = b.waiting; next = b.next }

-- a new batch was never tried, and may be tried at once
abbrev pub new_batch : Batch → Waiting
new_batch batch = record { batch = batch; tries = 0; due = 0 }

-- the batches that a cut now makes; none where one would have a number above the greatest
abbrev pub cut_now : Batching → ℕ → List Content
cut_now b now = if nat_le (b.next + piece_count b.uncut) (GREATEST_NUMBER + 1) then contents now b.next b.uncut else []

-- after a cut now: all events are in batches, unless a number would be above the greatest
abbrev pub after_cut : Batching → ℕ → Batching
after_cut b now =
    if nat_le (b.next + piece_count b.uncut) (GREATEST_NUMBER + 1)
    then record {
      sender = b.sender;
      uncut = [];
      waiting = b.waiting ++ map (λ c. new_batch (batch_of b.sender c)) (contents now b.next b.uncut);
      next = b.next + piece_count b.uncut;
    }
    else b
