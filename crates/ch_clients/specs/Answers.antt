-- What a turn answers, by its parts.
use Rattle.std.specs.Prelude.{List}
use Rattle.std.specs.List.{fold}
use Rattle.ch_clients.specs.declared.answer.WorkerTurn.{WorkerTurn}
use Rattle.ch_clients.specs.declared.answer.WorkerTurn.TheVariants.{Idle, Moved, Memory}

-- want of memory goes before all, and idle is only what is idle throughout
abbrev pub stronger : WorkerTurn → WorkerTurn → WorkerTurn
stronger Memory _ = Memory
stronger _ Memory = Memory
stronger Idle Idle = Idle
stronger _ _ = Moved

-- what the parts of a turn come to
abbrev pub strongest : List WorkerTurn → WorkerTurn
strongest parts = fold stronger Idle parts
