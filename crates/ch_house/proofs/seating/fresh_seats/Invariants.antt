use Rattle.std.proofs.Common.{[]}
use Rattle.ch_house.proofs.NewSeats.{AreSeats}
use Rattle.ch_house.proofs.seating.fresh_seats.Given as goal

abbrev pub invariant-loop-k : goal.invariant-loop-k
invariant-loop-k g l = AreSeats g.T.Served.place (λ s. g.T.Served.stands s []) l.n l.k l.seats
