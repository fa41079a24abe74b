-- What may go to another thread.
use denote.Param.Send.{IsSend, sendable, view_send}
use Rattle.std.proofs.Crossing.{crosses}
use Rattle.ch_base.proofs.Crossing.{shared_send}
use Rattle.ch_outbox.specs.contracts.queue.Queue as Queue
use Rattle.ch_outbox.specs.contracts.queue.Queue.TheInside as InsideQueue
use Rattle.ch_outbox.specs.contracts.outbox.Outbox as Outbox
use Rattle.ch_outbox.specs.contracts.outbox.Outbox.TheInside as Inside

queue_send : IsSend Queue.the_row
queue_send =
    let inside : IsSend InsideQueue.the_row = search (sendable, crosses, shared_send) depth 24 in
    view_send InsideQueue.the_row _ _ _ _ inside

pub outbox_send : IsSend Outbox.the_row
outbox_send =
    let inside : IsSend Inside.the_row = search (sendable, crosses, queue_send) depth 24 in
    view_send Inside.the_row _ _ _ _ inside
