-- What follows from the definitions of a worker's turn.
use Rattle.std.specs.Prelude.{◌≡◌, ◌≢◌, ◌+◌, ◌++◌, ℕ, Bool, List, true, length, Option, Some, All, Contains, ◌↔◌}
use Rattle.std.specs.Option.{option_to_list}
use Rattle.ch_clients.specs.Clients.{AreNone, Client}
use Rattle.ch_clients.specs.Serving.{leavers}
use Rattle.ch_clients.specs.declared.answer.WorkerTurn.{WorkerTurn}
use Rattle.ch_clients.specs.declared.answer.WorkerTurn.TheVariants.{Memory, Idle}
use Rattle.ch_desk.specs.OwnEntries.{Makes, was_made}
use Rattle.ch_io.specs.Counts.{raised}
use Rattle.ch_net.specs.Arriving.{ArrivalsTold}
use Rattle.ch_net.specs.Links.{LinkTold}
use Rattle.ch_net.specs.declared.arrivals.Arrival.{Arrival}
use Rattle.ch_protocol.specs.Asks.{asks_of}
use Rattle.ch_worker.specs.Runs.{Took, TakesTurns, calls_in, ended_in, gone_in, leavers_in, newcomers_in}
use Rattle.ch_worker.specs.Taking.{each_take}
use Rattle.ch_worker.specs.Turns.{Course, LetsIn, Moment, Scene, TakesCourse, parts_of}

-- this holds of every turn
abbrev pub OfTurns : (Course → Scene → Scene → WorkerTurn → Type 0) → Type 0
OfTurns P = (m : Moment) (c : Course) (old new : Scene) (result : WorkerTurn) → TakesCourse m c old new result → P c old new result

-- where the answer isn't Memory, each shard has its Take
abbrev pub EachShardIsTaken : Type 0
EachShardIsTaken = OfTurns (λ c old new result. result ≢ Memory
    → (asks_of c.takes ≡ each_take old.desk) × All (λ x. was_made x.came ≡ true) c.takes)

-- and those who were leaving have all their losses, so that only those leave whose connection ended in this turn
abbrev pub LeaversAreGone : Type 0
LeaversAreGone = OfTurns (λ c old new result. result ≢ Memory → new.worker.clients.leaving ≡ leavers c.turns)

-- and no client's turn found none, so each client whose handshake was answered stays
abbrev pub UpgradesAreMade : Type 0
UpgradesAreMade = OfTurns (λ c old new result. result ≢ Memory → All (λ t. t.part ≢ Memory) c.turns)

-- the answer is Memory exactly where a part of the turn found none, and Idle exactly where each part is idle
abbrev pub MemoryIsTold : Type 0
MemoryIsTold = OfTurns (λ c old new result. (result ≡ Memory) ↔ Contains (parts_of c) Memory)

abbrev pub IdleIsTold : Type 0
IdleIsTold = OfTurns (λ c old new result. (result ≡ Idle) ↔ All (λ p. p ≡ Idle) (parts_of c))

-- ---- several turns

-- turns that were taken, and then others, are all of them in this order
abbrev pub TurnsChain : Type 0
TurnsChain = (ts us : List Took) (a b c : Scene) → TakesTurns ts a b → TakesTurns us b c → TakesTurns (ts ++ us) a c

-- their calls are those of each turn, in order
abbrev pub TurnsMake : Type 0
TurnsMake = (ts : List Took) (old new : Scene) → TakesTurns ts old new → Makes (calls_in ts) old.desk new.desk

-- the worker has so many more turns, and let in so many more clients
abbrev pub TurnsCount : Type 0
TurnsCount = (ts : List Took) (old new : Scene) → TakesTurns ts old new
    → (new.worker.turns ≡ raised old.worker.turns (length ts)) × (new.worker.taken ≡ raised old.worker.taken (newcomers_in ts))

-- Each client that was there or was let in is still there or ended; and each that was leaving or left still leaves or has all
-- its losses made.
abbrev pub NobodyIsLost : Type 0
NobodyIsLost = (ts : List Took) (old new : Scene) → TakesTurns ts old new
    → (length old.worker.clients.connected + newcomers_in ts ≡ length new.worker.clients.connected + ended_in ts)
    × (length old.worker.clients.leaving + leavers_in ts ≡ length new.worker.clients.leaving + gone_in ts)

-- Where nobody was there and nobody is left, all who were let in have ended, and all losses that they owed are made.
abbrev pub AllIsDone : Type 0
AllIsDone = (ts : List Took) (old new : Scene) → TakesTurns ts old new → AreNone old.worker.clients → AreNone new.worker.clients
    → (ended_in ts ≡ newcomers_in ts) × (gone_in ts ≡ leavers_in ts)

-- ---- arrivals

module _ {L : Type 0} where
  -- of the connections that are left, where they are known, a turn lets in the first, or none
  abbrev pub ArrivalsAreLetIn : (L → LinkTold) → Type 0
  ArrivalsAreLetIn told = (now : ℕ) (room : Bool) (client : Option Client) (old new : ArrivalsTold L) (before after : List (Arrival L))
      → LetsIn told now room client old new → old.left ≡ Some before → new.left ≡ Some after
      → length before ≡ length (option_to_list client) + length after
