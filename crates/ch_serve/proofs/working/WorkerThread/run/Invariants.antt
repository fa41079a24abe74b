use Rattle.ch_serve.specs.Served.{IsSeated, Turned}
use Rattle.ch_serve.proofs.working.WorkerThread.run.Given as goal

abbrev pub invariant-loop-turn : goal.invariant-loop-turn
invariant-loop-turn g l = record { turned : Turned l._turn l.fn.self l.self; seated : IsSeated l.self }
