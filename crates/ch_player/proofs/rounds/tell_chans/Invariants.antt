use Rattle.std.proofs.Common.{◌≡◌, ℕ, ◌<◌, ◌≤◌, List, length}
use Rattle.ch_base.specs.declared.channel.ChanCall.TheVariants.{Take}
use Rattle.ch_desk.specs.Bench.{seen}
use Rattle.ch_player.specs.Benches.{IsAtShards}
use Rattle.ch_history.specs.Alone.{with_call}
use Rattle.ch_protocol.specs.Shards.{Shards}
use Rattle.ch_transcript.specs.Progress.{Socket}
use Rattle.ch_transcript.specs.Rounds.{tells_all}
use Rattle.ch_player.specs.Seats.{AreSeats, SameSessions, AddsTelling}
use Rattle.ch_player.specs.Rounding.{chans_waiting}
use Rattle.ch_player.proofs.rounds.tell_chans.Given as goal

abbrev pub invariant-loop-k : goal.invariant-loop-k
invariant-loop-k l = record {
  sessions : SameSessions l.fn.seats.items l.seats.items;
  shards : length l.bench.shards ≡ length l.fn.bench.shards;
  users : l.bench.users ≡ l.fn.bench.users;
  told : (sockets : List Socket) (shards : Shards) → AreSeats l.fn.seats.items sockets → IsAtShards l.fn.bench shards → AddsTelling l.seats.items l.fn.out.items l.out.items (tells_all sockets (chans_waiting shards l.k));
  done : (j : ℕ) → j < l.k → seen l.bench j ≡ with_call (seen l.fn.bench j) Take;
  left : (j : ℕ) → l.k ≤ j → seen l.bench j ≡ seen l.fn.bench j;
}
