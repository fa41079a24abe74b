use Rattle.ch_shard.proofs.Seating.{nothing_legal}
use Rattle.ch_shard.proofs.seat.ChanSeat.new.Goals as goal

pub returns-clause-empty : goal.returns-clause-empty
returns-clause-empty c = (c.in_ok-shard.ensures, nothing_legal (c.args.k, c.args.n))
