-- The frames that wait for a caller on the shards, and the calls that take them.
use Rattle.std.specs.Prelude.{◌≡◌, List, [], ◌∷◌, ◌++◌, map}
use Rattle.std.specs.List.{flat_map, range_with_len}
use Rattle.ch_base.specs.declared.channel.ChanAnswer.TheVariants as chan_answer
use Rattle.ch_base.specs.declared.channel.ChanCall.TheVariants as chan_call
use Rattle.ch_base.specs.declared.frame.FrameFor.{FrameFor}
use Rattle.ch_base.specs.declared.user.UserAnswer.TheVariants as user_answer
use Rattle.ch_base.specs.declared.user.UserCall.TheVariants as user_call
use Rattle.ch_clients.specs.declared.answer.WorkerTurn.{WorkerTurn}
use Rattle.ch_clients.specs.declared.answer.WorkerTurn.TheVariants.{Idle, Moved, Memory}
use Rattle.ch_desk.specs.OwnEntries.{Makes}
use Rattle.ch_desk.specs.Views.{DeskView}
use Rattle.ch_protocol.specs.Asks.{Asked, ComesOf}
use Rattle.ch_protocol.specs.declared.ask.Ask.{Ask}
use Rattle.ch_protocol.specs.declared.ask.Ask.TheVariants.{Chan, User}
use Rattle.ch_protocol.specs.declared.ask.Made.{Made}
use Rattle.ch_protocol.specs.declared.ask.Made.TheVariants as made

-- one Take on each channel shard, ascending
abbrev pub chan_takes : DeskView → List Ask
chan_takes desk = map (λ k. Chan k chan_call.Take) (range_with_len 0 desk.chan_shards)

-- one on each user shard, ascending
abbrev pub user_takes : DeskView → List Ask
user_takes desk = map (λ k. User k user_call.Take) (range_with_len 0 desk.user_shards)

-- one on each shard
abbrev pub each_take : DeskView → List Ask
each_take desk = chan_takes desk ++ user_takes desk

-- the call of the ask was made, and this came of it
pub record IsMade (ask : Ask) (came : Asked) (old new : DeskView) : Type 0 where
  pub same : came.ask ≡ ask
  pub comes : ComesOf ask came.came
  pub calls : Makes (came ∷ []) old new

-- the frames that an answer has; where there was no memory, there are none
abbrev pub frames_in : Made → List FrameFor
frames_in (made.Chan (chan_answer.Frames frames)) = frames
frames_in (made.User (user_answer.Frames frames)) = frames
frames_in _ = []

-- the frames that were taken, shard by shard
abbrev pub frames_of : List Asked → List FrameFor
frames_of takes = flat_map (λ x. frames_in x.came) takes

-- what a Take comes to for the turn: it moves where a frame was taken
abbrev pub any_frames : List FrameFor → WorkerTurn
any_frames [] = Idle
any_frames (f ∷ fs) = Moved

abbrev pub part_of_take : Made → WorkerTurn
part_of_take made.Memory = Memory
part_of_take came = any_frames (frames_in came)
