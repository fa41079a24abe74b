use Rattle.std.proofs.Common.{[], ◌∷◌, length-append, arith}
use Rattle.ch_turn.proofs.Tallies.{counts_push}
use Rattle.ch_turn.proofs.tally.TallyServed.serve.Goals as goal

pub returns-clause-served : goal.returns-clause-served
returns-clause-served c = λ log h. let is = h.1 in (counts_push 0 log _ h.0 (omega arith), omega (arith, length-append log (record { caller = c.args._caller; call = c.args._call.now; answer = c.args.self.now.count } ∷ [])))
