use Rattle.std.proofs.Common.{◌≡◌, ◌+◌, ◌-◌, List, length}
use Rattle.ch_player.specs.Benches.{HasShards, IsAtShards}
use Rattle.ch_protocol.specs.Shards.{Shards}
use Rattle.ch_transcript.specs.Progress.{Socket}
use Rattle.ch_transcript.specs.Rounds.{rounds}
use Rattle.ch_player.specs.Seats.{AreSeats, AreReady}
use Rattle.ch_player.specs.Rounding.{AllOpen}
use Rattle.ch_player.proofs.Roundings.{Running}
use Rattle.ch_player.proofs.rounds.rounds.Given as goal

abbrev pub invariant-loop-round : goal.invariant-loop-round
invariant-loop-round l = record {
  count : length l.seats.items ≡ length l.fn.seats.items;
  shards : HasShards l.config l.bench;
  ready : AreReady l.config l.seats.items;
  opens : AllOpen l.seats.items;
  running : (sockets : List Socket) (shards : Shards) → AreSeats l.fn.seats.items sockets → IsAtShards l.fn.bench shards
      → Running (length l.fn.seats.items + 1 - l._round) l.config l.fn.at l.bench l.seats.items l.fn.out.items l.out.items (rounds (length sockets + 1) l.config l.fn.at sockets shards);
}
