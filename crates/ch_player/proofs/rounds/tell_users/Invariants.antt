use Rattle.std.proofs.Common.{◌≡◌, ℕ, ◌<◌, ◌≤◌, List, length}
use Rattle.ch_base.specs.declared.user.UserCall.TheVariants.{Take}
use Rattle.ch_desk.specs.Bench.{seen_user}
use Rattle.ch_player.specs.Benches.{IsAtShards}
use Rattle.ch_history.specs.Alone.{with_user_call}
use Rattle.ch_protocol.specs.Shards.{Shards}
use Rattle.ch_transcript.specs.Progress.{Socket}
use Rattle.ch_transcript.specs.Rounds.{tells_all}
use Rattle.ch_player.specs.Seats.{AreSeats, SameSessions, AddsTelling}
use Rattle.ch_player.specs.Rounding.{users_waiting}
use Rattle.ch_player.proofs.rounds.tell_users.Given as goal

abbrev pub invariant-loop-k : goal.invariant-loop-k
invariant-loop-k l = record {
  sessions : SameSessions l.fn.seats.items l.seats.items;
  users : length l.bench.users ≡ length l.fn.bench.users;
  shards : l.bench.shards ≡ l.fn.bench.shards;
  told : (sockets : List Socket) (shards : Shards) → AreSeats l.fn.seats.items sockets → IsAtShards l.fn.bench shards → AddsTelling l.seats.items l.fn.out.items l.out.items (tells_all sockets (users_waiting shards l.k));
  done : (j : ℕ) → j < l.k → seen_user l.bench j ≡ with_user_call (seen_user l.fn.bench j) Take;
  left : (j : ℕ) → l.k ≤ j → seen_user l.bench j ≡ seen_user l.fn.bench j;
}
