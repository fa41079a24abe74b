-- A worker may go to another thread, where its links, their wires and its gate may.
use denote.RattleType.{RattleType}
use denote.Param.Send.{IsSend, sendable, view_send}
use denote.Param.SendFields.{declared_send, as_row_send}
use denote.Struct.Field.{u64-field, row_field}
use Rattle.ch_clients.proofs.Crossing.{clients_send}
use Rattle.ch_net.specs.declared.link.Link.{Ghosts as LinkGhosts}
use Rattle.ch_net.specs.declared.wire.Wire.{Ghosts as WireGhosts}
use Rattle.ch_worker.specs.contracts.worker.Worker as Worker
use Rattle.ch_worker.specs.contracts.worker.Worker.TheInside as InsideWorker

pub worker_send : (L W G : RattleType) (l : LinkGhosts L.Denot W.Denot) (w : WireGhosts W.Denot) → IsSend L → IsSend W → IsSend G
    → IsSend (Worker.the_row L G W l w)
worker_send L W G l w s t q =
    let number : IsSend u64-field.row = search sendable depth 12 in
    let count = as_row_send u64-field number in
    let inside : IsSend (InsideWorker.the_row L G W l w) =
    declared_send (InsideWorker.the_type L G W l w) (clients_send L W l w s t, (as_row_send (row_field G) q, (count, (count, tt)))) in
    view_send (InsideWorker.the_row L G W l w) _ _ _ _ inside
