use Rattle.ch_live.proofs.Losable.{session_may, peer_may}
use Rattle.ch_live.proofs.live.Live.lose.Goals as goal

pub lose-requires-clause-over : goal.lose-requires-clause-over
lose-requires-clause-over g c =
    session_may c.args.self.now.peer c.in-Open.connection (g.D.Desk.view c.args.desk.now) c.in-Open.is c.requires.desk

pub returns-in-Open-clause-desk : goal.returns-in-Open-clause-desk
returns-in-Open-clause-desk g c = peer_may c.lose.new.self (g.D.Desk.view c.lose.new.desk) c.lose.ensures.over
