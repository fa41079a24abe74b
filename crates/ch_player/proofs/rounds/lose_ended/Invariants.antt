use Rattle.std.proofs.Common.{◌≡◌, ℕ, ◌<◌, ◌≤◌, List, None, length, slice_index_or}
use Rattle.ch_player.specs.Benches.{HasShards, IsAtShards}
use Rattle.ch_protocol.specs.Shards.{Shards}
use Rattle.ch_transcript.specs.Progress.{Socket}
use Rattle.ch_player.specs.Seats.{AreSeats}
use Rattle.ch_player.specs.Rounding.{WereOpen, open_in}
use Rattle.ch_player.proofs.Roundings.{Losing}
use Rattle.ch_player.proofs.rounds.lose_ended.Given as goal

abbrev pub invariant-loop-i : goal.invariant-loop-i
invariant-loop-i l = record {
  count : length l.seats.items ≡ length l.fn.seats.items;
  shards : HasShards l.config l.bench;
  emptied : (j : ℕ) → j < l.i → slice_index_or l.seats.items j None ≡ open_in (slice_index_or l.fn.seats.items j None);
  left : (j : ℕ) → l.i ≤ j → slice_index_or l.seats.items j None ≡ slice_index_or l.fn.seats.items j None;
  losing : (before after : List Socket) (shards : Shards) → WereOpen before l.fn.seats.items → AreSeats l.fn.seats.items after → IsAtShards l.fn.bench shards → Losing l.fn.at l.i l.bench before after shards l.any;
}
