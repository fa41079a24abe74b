use Rattle.ch_ushard.proofs.Seating.{served}
use Rattle.ch_ushard.proofs.seat.UserSeatServed.serve.Goals as goal

pub returns-clause-served : goal.returns-clause-served
returns-clause-served c =
    let seat = c.args.self.now in
    served seat.shard c.apply.new.self (seat.k, seat.n) c.args.caller c.args.call.now c.apply.result c.requires.fits.1 c.apply.ensures.stands
