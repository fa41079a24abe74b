use denote.Param.Send.{sendable, given_sync}
use Rattle.std.proofs.Crossing.{crosses}
use Rattle.ch_turn.proofs.TallyCrossing.{tally_pass, tally_lock}
use Rattle.rows_turn.proofs.tally.count_in_threads.Goals as goal

pub join-requires-send-F : goal.join-requires-send-F
join-requires-send-F g c κs within = let rt = c.type_bounds.sync-R in search (sendable, crosses, given_sync, tally_pass, tally_lock) depth 24

pub join-requires-send-A : goal.join-requires-send-A
join-requires-send-A g c κs within = search (sendable, crosses, tally_pass) depth 24
