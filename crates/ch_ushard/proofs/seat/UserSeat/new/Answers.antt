use Rattle.ch_ushard.proofs.Seating.{nothing_legal}
use Rattle.ch_ushard.proofs.seat.UserSeat.new.Goals as goal

pub returns-clause-empty : goal.returns-clause-empty
returns-clause-empty c = (c.in_ok-shard.ensures, nothing_legal (c.args.k, c.args.n))
