use Rattle.std.proofs.Common.{◌≡◌, ◌+◌, length}
use Rattle.std.specs.Map.{values_of}
use Rattle.ch_index.specs.Rows.{of_socket, without_all}
use Rattle.ch_index.proofs.numbered.Numbered.lost.Given as goal

abbrev pub invariant-loop-place : goal.invariant-loop-place
invariant-loop-place g l =
    (without_all g.R.Row.name g.R.Row.socket (values_of l.self) l.socket ≡ without_all g.R.Row.name g.R.Row.socket (values_of l.initial.self) l.socket)
    × (l.place + length (of_socket g.R.Row.name g.R.Row.socket (values_of l.self) l.socket) ≡ l.count)
