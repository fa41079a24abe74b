-- What a drill comes to.
use Rattle.std.specs.Prelude.{◌≡◌, ◌==◌, ◌||◌, ℕ, Bool, List, length, take, All, Option, Some}
use Rattle.std.specs.Io.KnownBytes.{Appends}
use Rattle.ch_clients.specs.Clients.{AreNone}
use Rattle.ch_house.specs.Closes.{ClosedModel}
use Rattle.ch_worker.specs.Workers.{WorkerView}
use Rattle.ch_drill.specs.DrillCloses.{closed_after}
use Rattle.ch_drill.specs.DrillCounts.{drill_counts, turns_of}
use Rattle.ch_drill.specs.declared.words.Drill.{Drill}

-- the worker took so many turns and one connection, and nobody is there any more
pub record HasWorked (turns : ℕ) (w : WorkerView) : Type 0 where
  pub turns_are : w.turns ≡ turns
  pub one_taken : w.taken ≡ 1
  pub idle : AreNone w.clients

-- the closed house has the counts of the definition, and there is a worker for each that was asked for, which has done its work
pub record IsDrilled (drill : Drill) (closed : Option ClosedModel) (workers : List WorkerView) : Type 0 where
  pub closed_is : closed ≡ Some (closed_after (drill_counts drill))
  pub count : length workers ≡ drill.workers
  pub each : All (HasWorked (turns_of drill)) workers

-- a front of the text was written
abbrev pub WritesFront : List ℕ → Option (List ℕ) → Option (List ℕ) → Type 0
WritesFront text told_old told_new = (n : ℕ) × Appends told_old told_new (take n text)

-- the statuses with which a drill ends
abbrev pub is_status : ℕ → Bool
is_status status = (status == 0 || status == 2) || (status == 6 || status == 7)
