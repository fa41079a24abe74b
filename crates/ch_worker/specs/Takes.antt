-- The Takes of a turn, one after another. (Of private functions.)
use Rattle.std.specs.Prelude.{◌≡◌, List, map, Option, Some, None}
use Rattle.ch_base.specs.declared.channel.ChanAnswer.TheVariants as chan_answer
use Rattle.ch_base.specs.declared.channel.ChanCall.TheVariants as chan_call
use Rattle.ch_base.specs.declared.frame.FrameFor.{FrameFor}
use Rattle.ch_base.specs.declared.user.UserAnswer.TheVariants as user_answer
use Rattle.ch_base.specs.declared.user.UserCall.TheVariants as user_call
use Rattle.ch_clients.specs.Answers.{strongest}
use Rattle.ch_clients.specs.Clients.{ClientsView, all_handed}
use Rattle.ch_clients.specs.InTurn.{InTurn}
use Rattle.ch_clients.specs.declared.answer.WorkerTurn.{WorkerTurn}
use Rattle.ch_desk.specs.Views.{DeskView}
use Rattle.ch_protocol.specs.Asks.{Asked}
use Rattle.ch_protocol.specs.declared.ask.Ask.{Ask}
use Rattle.ch_protocol.specs.declared.ask.Ask.TheVariants.{Chan, User}
use Rattle.ch_protocol.specs.declared.ask.Made.{Made}
use Rattle.ch_protocol.specs.declared.ask.Made.TheVariants as made
use Rattle.ch_worker.specs.Taking.{IsMade, frames_in, frames_of, part_of_take}

-- the ask is a Take
abbrev pub IsTake : Ask → Type 0
IsTake (Chan shard chan_call.Take) = Unit {0}
IsTake (User shard user_call.Take) = Unit {0}
IsTake _ = ⊥

-- this may come of a Take
abbrev pub IsTakeAnswer : Made → Type 0
IsTakeAnswer (made.Chan (chan_answer.Frames frames)) = Unit {0}
IsTakeAnswer (made.User (user_answer.Frames frames)) = Unit {0}
IsTakeAnswer made.Memory = Unit {0}
IsTakeAnswer _ = ⊥

-- the frames that were taken; none where there was no memory
abbrev pub taken_frames : Made → Option (List FrameFor)
taken_frames made.Memory = None
taken_frames came = Some (frames_in came)

-- the Take of one shard was made, and its frames were handed over
pub record TakesOne (ask : Ask) (came : Asked) (c c_new : ClientsView) (old new : DeskView) (result : WorkerTurn) : Type 0 where
  pub made : IsMade ask came old new
  pub handed : c_new ≡ record c { connected = all_handed c.connected (frames_in came.came) }
  pub answer : result ≡ part_of_take came.came

-- these Takes were made, and their frames were handed over
pub record TakesEach (asks : List Ask) (takes : List Asked) (c c_new : ClientsView) (old new : DeskView) (result : WorkerTurn) : Type 0 where
  pub each : InTurn IsMade asks takes old new
  pub handed : c_new ≡ record c { connected = all_handed c.connected (frames_of takes) }
  pub answer : result ≡ strongest (map (λ x. part_of_take x.came) takes)
