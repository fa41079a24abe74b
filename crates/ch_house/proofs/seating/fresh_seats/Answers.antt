use Rattle.std.proofs.Common.{[]}
use Rattle.ch_house.proofs.NewSeats.{AreSeats-push}
use Rattle.ch_house.proofs.seating.fresh_seats.Goals as goal

pub loop-k-preserved : goal.loop-k-preserved
loop-k-preserved g c =
    AreSeats-push g.T.Served.place (λ s. g.T.Served.stands s []) c.args.n c.loop-k.k c.loop-k.seats c.push.new.self c.in_ok-seat.seat c.loop-k.invariant c.in_ok-push.ensures.ok c.in_ok-seat.ensures.place c.in_ok-seat.ensures.empty
