-- The rounds at the end of a line.
use Rattle.std.specs.Prelude.{◌≡◌, ℕ, ◌<◌, Bool, true, if◌then◌else◌, List, ◌++◌, length, flat_map, slice_index_or, Option, Some, None, IfSome, is_some}
use Rattle.std.specs.List.{range_with_len}
use Rattle.ch_base.specs.declared.channel.ChanCall.TheVariants.{Take}
use Rattle.ch_base.specs.declared.user.UserCall.TheVariants as user
use Rattle.ch_base.specs.declared.frame.FrameFor.{FrameFor}
use Rattle.ch_config.specs.declared.config.Config.{Config}
use Rattle.ch_desk.specs.Bench.{BenchModel, seen, seen_user}
use Rattle.ch_history.specs.Frames.{waiting}
use Rattle.ch_history.specs.UserFrames.{user_waiting}
use Rattle.ch_session.specs.Kept.{Kept}
use Rattle.ch_player.specs.Benches.{IsAtShards}
use Rattle.ch_history.specs.Alone.{with_call, with_user_call}
use Rattle.ch_protocol.specs.Shards.{Shards, loses}
use Rattle.ch_transcript.specs.Progress.{Socket, no_socket}
use Rattle.ch_transcript.specs.Rounds.{tells_all, all_waiting, taken, has_ended, any_ended, loses_ended, Rounds}
use Rattle.ch_player.specs.Seats.{AreSeats, AddsTelling}
use Rattle.ch_player.specs.declared.seat.Seat.{Seat}

-- these frames waited on the channel shard k, and were taken
pub record ChanTakes (k : ℕ) (old new : BenchModel) (frames : List FrameFor) : Type 0 where
  pub frames_are : frames ≡ waiting (seen old k) 0
  pub taken : seen new k ≡ with_call (seen old k) Take

-- these frames waited on the user shard k, and were taken
pub record UserTakes (k : ℕ) (old new : BenchModel) (frames : List FrameFor) : Type 0 where
  pub frames_are : frames ≡ user_waiting (seen_user old k) 0
  pub taken : seen_user new k ≡ with_user_call (seen_user old k) user.Take

-- a Take is made on each channel shard, or on each user shard
abbrev pub taken_chans : Shards → Shards
taken_chans shards = record { chans = λ k. with_call (shards.chans k) Take; users = shards.users }

abbrev pub taken_users : Shards → Shards
taken_users shards = record { chans = shards.chans; users = λ k. with_user_call (shards.users k) user.Take }

abbrev pub chans_waiting : Shards → ℕ → List FrameFor
chans_waiting shards count = flat_map (λ k. waiting (shards.chans k) 0) (range_with_len 0 count)

abbrev pub users_waiting : Shards → ℕ → List FrameFor
users_waiting shards count = flat_map (λ k. user_waiting (shards.users k) 0) (range_with_len 0 count)

-- the frames of so many channel shards were taken and told
pub record TellsChans (count : ℕ) (bench : BenchModel) (now : List (Option Seat)) (old new : List ℕ) (sockets : List Socket) (shards : Shards) : Type 0 where
  pub tells : AddsTelling now old new (tells_all sockets (chans_waiting shards count))
  pub at_shards : IsAtShards bench (taken_chans shards)

-- the frames of so many user shards were taken and told
pub record TellsUsers (count : ℕ) (bench : BenchModel) (now : List (Option Seat)) (old new : List ℕ) (sockets : List Socket) (shards : Shards) : Type 0 where
  pub tells : AddsTelling now old new (tells_all sockets (users_waiting shards count))
  pub at_shards : IsAtShards bench (taken_users shards)

-- the frames of all shards were taken and told
pub record TellsRound (config : Config) (bench : BenchModel) (now : List (Option Seat)) (old new : List ℕ) (sockets : List Socket) (shards : Shards) : Type 0 where
  pub tells : AddsTelling now old new (tells_all sockets (all_waiting config shards))
  pub at_shards : IsAtShards bench (taken shards)

-- every socket that has a seat is open
pub record AllOpen (seats : List (Option Seat)) : Type 0 where
  pub each : (i : ℕ) → IfSome (slice_index_or seats i None) (λ seat. seat.is_open ≡ true)

-- the sockets were open before that have a seat
pub record WereOpen (before : List Socket) (seats : List (Option Seat)) : Type 0 where
  pub count : length before ≡ length seats
  pub each : (i : ℕ) → i < length before → (slice_index_or before i no_socket).is_open ≡ is_some (slice_index_or seats i None)

-- the seat, if it is open
abbrev pub open_in : Option Seat → Option Seat
open_in None = None
open_in (Some seat) = if seat.is_open then Some seat else None

-- the session of a seat that isn't open
abbrev pub ended_in : Option Seat → Option Kept
ended_in None = None
ended_in (Some seat) = if seat.is_open then None else Some seat.session

-- the losses of a socket that ended between its two states
abbrev pub one_loss : ℕ → ℕ → Socket → Socket → Shards → Shards
one_loss number at before after shards = if has_ended before after then loses number at after.asks shards else shards

-- the losses of the socket with this number were made, if it ended, and it is told whether it did
pub record LosesOne (number at : ℕ) (bench : BenchModel) (before after : Socket) (shards : Shards) (ended : Bool) : Type 0 where
  pub told : ended ≡ has_ended before after
  pub at_shards : IsAtShards bench (one_loss number at before after shards)

-- the losses of the sockets that ended were made, and it is told whether any ended
pub record LosesEnded (at : ℕ) (bench : BenchModel) (now : List (Option Seat)) (before after : List Socket) (shards : Shards) (any : Bool) : Type 0 where
  pub told : any ≡ any_ended before after
  pub seats : AreSeats now after
  pub at_shards : IsAtShards bench (loses_ended at 1 before after shards)

-- a round was run: the frames of all shards were taken and told, the losses of those that ended were made, and it is told
-- whether any ended
pub record RunsRound (config : Config) (at : ℕ) (bench : BenchModel) (now : List (Option Seat)) (old new : List ℕ) (sockets : List Socket) (shards : Shards) (any : Bool) : Type 0 where
  pub text : new ≡ old ++ (tells_all sockets (all_waiting config shards)).text
  pub loses : LosesEnded at bench now sockets (tells_all sockets (all_waiting config shards)).sockets (taken shards) any

-- these rounds were run
pub record RunsRounds (bench : BenchModel) (now : List (Option Seat)) (old new : List ℕ) (r : Rounds) : Type 0 where
  pub text : new ≡ old ++ r.text
  pub seats : AreSeats now r.sockets
  pub at_shards : IsAtShards bench r.shards
