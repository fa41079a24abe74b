-- Visits to those who leave, one after another.
use Rattle.std.proofs.Common.{◌≤◌, ◌<◌, ◌-◌, ℕ, List, [], ◌∷◌, ◌++◌, length}
use Rattle.std.specs.Prelude.{All}
use Rattle.ch_clients.proofs.Passing.{pass_begins, pass_goes_on, pass_ends, pass_falls}
use Rattle.ch_clients.specs.Answers.{stronger}
use Rattle.ch_clients.specs.Leaving.{Left, IsLeft, LosesEach, still_there, part_of_left}
use Rattle.ch_clients.specs.Passes.{HasTurn, HasPassed}
use Rattle.ch_clients.specs.declared.answer.WorkerTurn.{WorkerTurn}
use Rattle.ch_clients.specs.declared.answer.WorkerTurn.TheVariants.{Idle}
use Rattle.ch_clients.specs.declared.next.Next.{Next}
use Rattle.ch_config.specs.declared.config.Config.{Config}
use Rattle.ch_desk.specs.Views.{DeskView, IsDeskOf}
use Rattle.ch_live.specs.Peers.{IsPeerOver}
use Rattle.ch_live.specs.declared.peer.Peer.{Peer}

-- how far the visits are
pub record Visiting (config : Config) (now : ℕ) (old peers : List Peer) (before desk : DeskView) (place : ℕ) (part : WorkerTurn) : Type 0 where
  pub lefts : List Left
  pub passed : HasPassed (IsLeft now) still_there part_of_left old peers before desk lefts place part
  pub over : All (IsPeerOver config) peers
  pub shards : IsDeskOf config desk

pub visits_begin : (config : Config) (now : ℕ) (peers : List Peer) (desk : DeskView) → All (IsPeerOver config) peers → IsDeskOf config desk
    → Visiting config now peers peers desk desk 0 Idle
visits_begin config now peers desk over shards =
    record { lefts = []; passed = pass_begins (IsLeft now) still_there part_of_left peers desk; over = over; shards = shards }

pub visits_go_on : (config : Config) (now : ℕ) (old peers peers_new : List Peer) (before desk desk_new : DeskView) (place : ℕ) (part : WorkerTurn) (l : Left) (next : Next)
    → Visiting config now old peers before desk place part
    → HasTurn (IsLeft now) still_there part_of_left place peers peers_new desk desk_new l next
    → All (IsPeerOver config) peers_new → IsDeskOf config desk_new
    → Visiting config now old peers_new before desk_new next.place (stronger part next.part)
visits_go_on config now old peers peers_new before desk desk_new place part l next h t over shards = record {
  lefts = h.lefts ++ l ∷ [];
  passed = pass_goes_on (IsLeft now) still_there part_of_left old peers peers_new before desk desk_new h.lefts place part l next h.passed t;
  over = over;
  shards = shards;
}

pub visits_fall : (config : Config) (now : ℕ) (old peers peers_new : List Peer) (before desk desk_new : DeskView) (place : ℕ) (part : WorkerTurn) (l : Left) (next : Next)
    → Visiting config now old peers before desk place part
    → HasTurn (IsLeft now) still_there part_of_left place peers peers_new desk desk_new l next
    → length peers_new - next.place < length peers - place
visits_fall config now old peers peers_new before desk desk_new place part l next h t =
    pass_falls (IsLeft now) still_there part_of_left old peers peers_new before desk desk_new h.lefts place part l next h.passed t

pub visits_end : (config : Config) (now : ℕ) (old peers : List Peer) (before desk : DeskView) (place : ℕ) (part : WorkerTurn)
    → Visiting config now old peers before desk place part → length peers ≤ place
    → (lefts : List Left) × LosesEach now lefts old peers before desk part
visits_end config now old peers before desk place part h over =
    let e = pass_ends (IsLeft now) still_there part_of_left old peers before desk h.lefts place part h.passed over in
    (h.lefts, record { each = e.0; stay = e.1; answer = e.2 })
