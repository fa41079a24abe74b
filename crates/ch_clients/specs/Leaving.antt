-- Those who leave: their connection ended, and their session has losses that are still to be made.
use Rattle.std.specs.Prelude.{◌≡◌, ℕ, ⊤, List, [], ◌∷◌, map, Result, is_ok, OnOk, if◌then◌else◌}
use Rattle.std.specs.List.{flat_map}
use Rattle.ch_base.specs.declared.memory.Memory.{Memory}
use Rattle.ch_desk.specs.Views.{DeskView}
use Rattle.ch_live.specs.Losses.{Loses, Owes}
use Rattle.ch_live.specs.declared.peer.Peer.{Peer}
use Rattle.ch_protocol.specs.Asks.{Asked}
use Rattle.ch_clients.specs.Answers.{strongest}
use Rattle.ch_clients.specs.InTurn.{InTurn}
use Rattle.ch_clients.specs.declared.answer.WorkerTurn.{WorkerTurn}
use Rattle.ch_clients.specs.declared.answer.WorkerTurn.TheVariants.{Moved, Memory as OutOfMemory}

-- what a visit to one who leaves comes to: the losses that are made, who it is then, and whether there was memory for all
pub record Left : Type 0 where
  pub asked : List Asked
  pub peer : Peer
  pub result : Result ⊤ Memory

-- the losses that are left are made at the moment now, in order: all of them, or those up to one that finds no memory
pub record IsLeft (now : ℕ) (peer : Peer) (left : Left) (old new : DeskView) : Type 0 where
  pub loses : Loses now left.asked peer left.peer old new left.result
  pub all : OnOk left.result (Owes left.peer → ⊥)

-- who still leaves after a visit: one for whose losses there was no memory
abbrev pub still_there : Left → List Peer
still_there l = if is_ok l.result then [] else l.peer ∷ []

-- those who still leave, in their order
abbrev pub still_leaving : List Left → List Peer
still_leaving lefts = flat_map still_there lefts

-- what a visit comes to for the turn
abbrev pub part_of_left : Left → WorkerTurn
part_of_left l = if is_ok l.result then Moved else OutOfMemory

-- each of those who leave is visited at the moment now, in order
pub record LosesEach (now : ℕ) (lefts : List Left) (leaving leaving_new : List Peer) (old new : DeskView) (result : WorkerTurn) : Type 0 where
  pub each : InTurn (IsLeft now) leaving lefts old new
  pub stay : leaving_new ≡ still_leaving lefts
  pub answer : result ≡ strongest (map part_of_left lefts)
