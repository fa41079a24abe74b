-- How a reply is written. (Of private functions.)
use Rattle.std.specs.Prelude.{◌≡◌, ◌≢◌, ◌⊎◌, ℕ, Bool, true, false, List, [], ◌++◌}
use Rattle.ch_io.specs.Counts.{Rose}
use Rattle.ch_net.specs.Links.{LinkTold, LinkMoves}
use Rattle.ch_exchange.specs.Pending.{Pending}
use Rattle.ch_exchange.specs.Turns.{IsUnfinished, stage_of, behind}
use Rattle.ch_exchange.specs.declared.pending.After.{After}
use Rattle.ch_exchange.specs.declared.pending.After.TheVariants.{Close, Upgrade as Upgraded}
use Rattle.ch_exchange.specs.declared.stage.Stage.{Stage}
use Rattle.ch_exchange.specs.declared.stage.Stage.TheVariants.{Finished}
use Rattle.ch_exchange.specs.declared.turn.ExTurn.{ExTurn}
use Rattle.ch_exchange.specs.declared.turn.ExTurn.TheVariants.{Moved, Idle, Upgrade, Done, Peer, Fault}
use Rattle.ch_exchange.specs.declared.writing.Writing.{Writing}
use Rattle.ch_exchange.specs.declared.writing.Writing.TheVariants.{All, Waiting, Failed}

-- how far a reply was written
abbrev pub IsWriting : Pending → LinkTold → LinkTold → Writing → Type 0
IsWriting new w v All = new.left ≡ []
IsWriting new w v Waiting = (new.left ≢ []) × Rose w.counts.stalls v.counts.stalls
IsWriting new w v Failed = (new.left ≢ []) × Rose w.counts.faults v.counts.faults

-- a front of what was left was written
pub record WritesOut (old new : Pending) (w v : LinkTold) (result : Writing) : Type 0 where
  pub written : List ℕ
  pub moves : LinkMoves w v [] written
  pub front : old.left ≡ written ++ new.left
  pub after : new.after ≡ old.after
  pub far : IsWriting new w v result

-- the whole reply was written, and this follows it
abbrev pub IsWhole : After → List ℕ → Pending → Stage → Type 0
IsWhole after written p new = (p.after ≡ after) × (written ≡ p.left) × (new ≡ Finished (behind after))

-- made: whether the reply was made in this turn
abbrev pub WriteAnswer : Bool → List ℕ → Pending → LinkTold → LinkTold → Stage → ExTurn → Type 0
WriteAnswer made written p w v new Moved =
    IsUnfinished new × ((made ≡ true) ⊎ (written ≢ [])) × Rose w.counts.stalls v.counts.stalls
WriteAnswer made written p w v new Idle =
    IsUnfinished new × (made ≡ false) × (written ≡ []) × Rose w.counts.stalls v.counts.stalls
WriteAnswer made written p w v new (Upgrade target) = (rest : List ℕ) × IsWhole (Upgraded target rest) written p new
WriteAnswer made written p w v new Done = IsWhole Close written p new
WriteAnswer made written p w v new Peer = ⊥
WriteAnswer made written p w v new Fault = IsUnfinished new × Rose w.counts.faults v.counts.faults

-- the part of a turn that writes
pub record WritesOn (made : Bool) (p : Pending) (w v : LinkTold) (new : Stage) (result : ExTurn) : Type 0 where
  pub written : List ℕ
  pub left : List ℕ
  pub moves : LinkMoves w v [] written
  pub front : p.left ≡ written ++ left
  pub stage : new ≡ stage_of left p.after
  pub unwritten : left ≢ [] → Rose w.counts.stalls v.counts.stalls ⊎ Rose w.counts.faults v.counts.faults
  pub answer : WriteAnswer made written p w v new result

-- what follows a reply that is written
abbrev pub IsEnd : After → Stage → ExTurn → Type 0
IsEnd Close new result = (new ≡ Finished []) × (result ≡ Done)
IsEnd (Upgraded target rest) new result = (new ≡ Finished rest) × (result ≡ Upgrade target)
