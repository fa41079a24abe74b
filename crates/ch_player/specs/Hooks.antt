-- Webhook events that are taken, and batches that are printed and count as sent.
use Rattle.std.specs.Prelude.{◌≡◌, ℕ, List, [], ◌++◌, flat_map}
use Rattle.ch_desk.specs.Bench.{BenchModel}
use Rattle.ch_protocol.specs.Shards.{Shards}
use Rattle.ch_transcript.specs.Gathering.{batch_line, taken_hooks}
use Rattle.ch_webhooks.specs.Batching.{Batching, after_cut}
use Rattle.ch_player.specs.Benches.{IsAtShards}

-- no batch waits any more
abbrev pub emptied : Batching → Batching
emptied b = record { sender = b.sender; uncut = b.uncut; waiting = []; next = b.next }

-- the batches that waited were printed, and none waits any more
pub record Prints (old new : Batching) (wrote written : List ℕ) : Type 0 where
  pub text : written ≡ wrote ++ flat_map (λ w. batch_line w.batch) old.waiting
  pub state : new ≡ emptied old

-- the events that waited on all shards were taken, and with them the batcher was this; they were cut and printed
pub record Gathers (at : ℕ) (b : Batching) (bench : BenchModel) (new : Batching) (wrote written : List ℕ) (shards : Shards) : Type 0 where
  pub prints : Prints (after_cut b at) new wrote written
  pub at_shards : IsAtShards bench (taken_hooks at shards)
