use Rattle.ch_house.specs.Houses.{ArePassesOf}
use Rattle.ch_drill.specs.Seats.{MayWork}
use Rattle.ch_drill.proofs.seat.Seat.work.Given as goal

-- it may go on, at the desk where it began
abbrev pub invariant-loop : goal.invariant-loop
invariant-loop g l = MayWork l.self × ArePassesOf l.fn.self.desk.house l.fn.self.desk.caller l.self.desk
