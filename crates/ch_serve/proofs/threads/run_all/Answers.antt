use denote.Param.Send.{sendable}
use Rattle.std.proofs.Crossing.{crosses}
use Rattle.ch_house.proofs.Crossing.{passes_send, house_sync}
use Rattle.ch_intake.proofs.Crossing.{intake_sync, intake_pass_send}
use Rattle.ch_worker.proofs.Crossing.{worker_send}
use Rattle.ch_serve.proofs.threads.run_all.Goals as goal

pub join-requires-send-F : goal.join-requires-send-F
join-requires-send-F g c κs within =
    let runtime = c.type_bounds.sync-R in
    let links = c.type_bounds.send-L in
    let wires = c.type_bounds.send-L-Wire in
    let clocks = c.type_bounds.send-C in
    let wakers = c.type_bounds.sync-C-Waker in
    search (sendable, crosses, house_sync, passes_send, intake_sync, intake_pass_send, worker_send) depth 40

pub join-requires-send-A : goal.join-requires-send-A
join-requires-send-A g c κs within =
    let links = c.type_bounds.send-L in
    let wires = c.type_bounds.send-L-Wire in
    let clocks = c.type_bounds.send-C in
    search (sendable, crosses, house_sync, passes_send, intake_sync, intake_pass_send, worker_send) depth 40
