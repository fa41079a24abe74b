use Rattle.ch_worker.proofs.TurnLaws.{memory_is_told, idle_is_told}
use Rattle.ch_worker.proofs.laws.answers_are_told.Goals as goal

pub returns : goal.returns
returns c = record { memory = memory_is_told; idle = idle_is_told }
