-- Several turns of a worker at one desk, one after another.
use Rattle.std.specs.Prelude.{◌≡◌, ℕ, List, [], ◌∷◌, length, is_ok, sum_by, if◌then◌else◌}
use Rattle.std.specs.List.{flat_map}
use Rattle.std.specs.Option.{option_to_list}
use Rattle.ch_clients.specs.Leaving.{Left}
use Rattle.ch_clients.specs.Serving.{Fate, Stays, leavers}
use Rattle.ch_clients.specs.declared.answer.WorkerTurn.{WorkerTurn}
use Rattle.ch_protocol.specs.Asks.{Asked}
use Rattle.ch_worker.specs.Turns.{Course, Moment, Scene, TakesCourse, calls_of}

-- one of the turns
pub record Took : Type 0 where
  pub moment : Moment
  pub course : Course
  pub result : WorkerTurn

-- these turns were taken, each from where the one before it ended
abbrev pub TakesTurns : List Took → Scene → Scene → Type 0
TakesTurns [] old new = new ≡ old
TakesTurns (t ∷ ts) old new = (next : Scene) × TakesCourse t.moment t.course old next t.result × TakesTurns ts next new

-- all calls of the caller, in order
abbrev pub calls_in : List Took → List Asked
calls_in ts = flat_map (λ t. calls_of t.course) ts

-- ---- counts

-- how many clients were let in
abbrev pub newcomers_in : List Took → ℕ
newcomers_in ts = sum_by (λ t. length (option_to_list t.course.newcomer)) ts

-- how many clients ended
abbrev pub ended : Fate → ℕ
ended (Stays client) = 0
ended _ = 1

abbrev pub ended_in : List Took → ℕ
ended_in ts = sum_by (λ t. sum_by (λ u. ended u.fate) t.course.turns) ts

-- how many of them left, with losses to make
abbrev pub leavers_in : List Took → ℕ
leavers_in ts = sum_by (λ t. length (leavers t.course.turns)) ts

-- how many of those have all their losses made
abbrev pub gone : Left → ℕ
gone l = if is_ok l.result then 1 else 0

abbrev pub gone_in : List Took → ℕ
gone_in ts = sum_by (λ t. sum_by gone t.course.lefts) ts
