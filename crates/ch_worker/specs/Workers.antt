-- What contracts see of a worker.
use Rattle.std.specs.Prelude.{ℕ}
use Rattle.ch_clients.specs.Clients.{ClientsView, no_clients}
use Rattle.ch_config.specs.declared.config.Config.{Config}

-- its clients, how many turns it took, and how many clients it let in; a number stands still at its type's end
pub record WorkerView : Type 0 where
  pub clients : ClientsView
  pub turns : ℕ
  pub taken : ℕ

-- it took no turn yet
abbrev pub new_worker : Config → ℕ → WorkerView
new_worker config start = record { clients = no_clients config start; turns = 0; taken = 0 }
