use Rattle.std.proofs.Common.{◌≡◌, ◌+◌, ◌≤◌, List, length}
use Rattle.ch_serve.specs.Accepting.{Came, AllCome, door}
use Rattle.ch_serve.proofs.accepting.AcceptingThread.run.Given as goal

abbrev pub invariant-loop-turn : goal.invariant-loop-turn
invariant-loop-turn g l = record {
  came : (came : List (Came g.row.A-Conn.Denot)) × (length came ≡ l._turn)
      × AllCome l.fn.self.pass.caller came (door l.fn.self.pass l.fn.self.numbered) (door l.self.pass l.self.numbered);
  caller : l.self.pass.caller ≡ l.fn.self.pass.caller;
  few : l.self.numbered ≤ l.fn.self.numbered + l._turn;
}
