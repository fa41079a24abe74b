-- How bytes are read and judged. (Of private functions.)
use Rattle.std.specs.Prelude.{◌≡◌, ◌⊎◌, ◌≤◌, ℕ, List, [], ◌++◌, length, take, Option, Result, Ok, Err}
use Rattle.ch_answer.specs.Answers.{Serving, IsAnswer}
use Rattle.ch_base.specs.declared.memory.Memory.{Memory}
use Rattle.ch_desk.specs.OwnEntries.{Makes}
use Rattle.ch_desk.specs.Views.{DeskView}
use Rattle.ch_http.specs.Fed.{Fed}
use Rattle.ch_io.specs.Counts.{Rose}
use Rattle.ch_net.specs.Links.{LinkTold, LinkMoves}
use Rattle.ch_protocol.specs.Asks.{Asked}
use Rattle.ch_requests.specs.declared.reply.Reply.{Reply}
use Rattle.ch_requests.specs.declared.request.Request.{Request}
use Rattle.ch_exchange.specs.Answers.{ComesTo, is_late}
use Rattle.ch_exchange.specs.Pending.{Pending, closing, out_of_memory}
use Rattle.ch_exchange.specs.Turns.{Course, Scene, TakesCourse}
use Rattle.ch_exchange.specs.declared.stage.Stage.{Stage}
use Rattle.ch_exchange.specs.declared.turn.ExTurn.{ExTurn}
use Rattle.ch_exchange.specs.declared.turn.ExTurn.TheVariants.{Peer, Fault}

-- ---- reading

-- a read that gave none: the other side has ended, or the link failed
abbrev pub NoneHasCause : ExTurn → LinkTold → LinkTold → Type 0
NoneHasCause Peer w v = Rose w.counts.ends v.counts.ends
NoneHasCause Fault w v = Rose w.counts.faults v.counts.faults
NoneHasCause _ w v = ⊥

-- so many bytes were read into the buffer, none only where the link asked for patience; or none could be
abbrev pub ReadsOnce : List ℕ → LinkTold → LinkTold → Result ℕ ExTurn → Type 0
ReadsOnce buf w v (Ok n) = (n ≤ length buf) × LinkMoves w v (take n buf) [] × (n ≡ 0 → Rose w.counts.stalls v.counts.stalls)
ReadsOnce buf w v (Err turn) = LinkMoves w v [] [] × NoneHasCause turn w v

-- ---- judging

-- with more bytes read
abbrev pub with_bytes : Fed → List ℕ → Fed
with_bytes f bytes = record { bytes = f.bytes ++ bytes; since = f.since }

-- calls were made at the desk, and this reply comes of the bytes
abbrev pub Answers : Serving → Fed → DeskView → DeskView → Option Pending → Type 0
Answers s f desk desk_new reply = (asked : List Asked) × ComesTo s f.bytes (is_late f.since s.now) asked reply × Makes asked desk desk_new

-- the reply that was made, or the one for want of memory
abbrev pub IsOr : Result Pending Memory → Pending → Type 0
IsOr (Ok made) p = p ≡ made
IsOr (Err m) p = p ≡ out_of_memory

-- the reply of a request that was answered, or the one for want of memory
abbrev pub IsReplyOf : Result Reply Memory → Pending → Type 0
IsReplyOf (Ok reply) p = (p ≡ closing reply) ⊎ (p ≡ out_of_memory)
IsReplyOf (Err m) p = p ≡ out_of_memory

-- a request was answered at the desk, and replied to
pub record Serves (s : Serving) (q : Request) (desk desk_new : DeskView) (p : Pending) : Type 0 where
  pub asked : List Asked
  pub answer : Result Reply Memory
  pub calls : Makes asked desk desk_new
  pub answers : IsAnswer s q asked answer
  pub reply : IsReplyOf answer p

-- ---- the turn

abbrev scene : Stage → LinkTold → DeskView → Scene
scene stage link desk = record { stage = stage; link = link; desk = desk }

-- a turn from one stage to the next takes some course
abbrev pub HasCourse : Serving → Stage → Stage → LinkTold → LinkTold → DeskView → DeskView → ExTurn → Type 0
HasCourse s old new w v desk desk_new result = (course : Course) × TakesCourse s course (scene old w desk) (scene new v desk_new) result
