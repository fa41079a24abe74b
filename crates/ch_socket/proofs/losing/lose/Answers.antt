use Rattle.ch_socket.proofs.LossSteps.{are_lost, lost_all}
use Rattle.ch_socket.proofs.losing.lose.Goals as goal

pub returns-clause-lost : goal.returns-clause-lost
returns-clause-lost g c = λ s shards socket lists alone.
    let a = c.args in
    let made = c.lose.ensures.losses in
    lost_all c.lose.result a.at made.0 a.session made.2
    (λ all. are_lost c.calls_alone.ensures.calls a.number a.at made.0 a.session c.lose.new.session (g.D.Desk.view a.desk.now) (g.D.Desk.view c.lose.new.desk) s shards c.requires.ready made.1 all socket lists alone)
