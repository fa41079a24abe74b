use Rattle.std.proofs.Common.{sym, subst, ap}
use Rattle.ch_serve.specs.Served.{Seat, Turned, seat}
use Rattle.ch_serve.proofs.Turning.{turned_once}
use Rattle.ch_serve.proofs.working.WorkerThread.turn.Goals as goal

pub returns-clause-turned : goal.returns-clause-turned
returns-clause-turned g c =
    let turn = c.turn-turn.ensures.turn in
    let here = turned_once _ turn.0 c.turn-turn.result (seat c.self.inside.worker c.self.inside.desk) (seat c.turn-turn.new.self c.turn-turn.new.desk) c.names_tell_houses.ensures turn.1 in
    let from : Turned 1 c.args.self.now (seat c.turn-turn.new.self c.turn-turn.new.desk) = subst (λ (s : Seat). Turned 1 s (seat c.turn-turn.new.self c.turn-turn.new.desk)) c.self.view_is here in
    subst (λ (s : Seat). Turned 1 c.args.self.now s) (ap (seat c.turn-turn.new.self) (sym c.take_left.ensures)) from
