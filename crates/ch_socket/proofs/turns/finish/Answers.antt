use Rattle.ch_socket.proofs.NoLosses.{no_losses}
use Rattle.ch_socket.proofs.turns.finish.Goals as goal

pub returns-then-goes_on-clause-calls : goal.returns-then-goes_on-clause-calls
returns-then-goes_on-clause-calls g c =
    let desk = g.D.Desk.view c.args.desk.now in
    no_losses c.args.at c.args.session desk (c.calls_chain.ensures.none desk)
