use denote.Param.Send.{sendable}
use Rattle.std.proofs.Crossing.{crosses}
use Rattle.ch_turn.proofs.TallyCrossing.{tally_pass, tally_lock}
use Rattle.bench_turn.proofs.turns.call_in_threads.Goals as goal

pub for_each_mut-requires-sync-F : goal.for_each_mut-requires-sync-F
for_each_mut-requires-sync-F g c κs within = let rt = c.type_bounds.sync-R in search (sendable, crosses, tally_lock) depth 24

pub for_each_mut-requires-send-T : goal.for_each_mut-requires-send-T
for_each_mut-requires-send-T g c κs within = search (sendable, crosses, tally_pass) depth 24
