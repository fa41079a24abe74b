-- What a worker of a drill has with it may go to another thread.
use denote.Param.Send.{IsSend, sendable, view_send}
use Rattle.std.proofs.Crossing.{crosses}
use Rattle.ch_base.proofs.Crossing.{text_send}
use Rattle.ch_net.specs.contracts.arrivals.Arrival as Arrival
use Rattle.ch_net.specs.contracts.mem_arrivals.MemArrivals as MemArrivals
use Rattle.ch_net.specs.contracts.mem_arrivals.MemArrivals.TheInside as InsideArrivals
use Rattle.ch_net.specs.contracts.mem_link.MemLink as MemLink
use Rattle.ch_net.specs.contracts.mem_link.MemLink.TheInside as InsideLink
use Rattle.ch_net.specs.contracts.mem_link.MemLinkLink.TheImpl as link
use Rattle.ch_net.specs.contracts.mem_wire.MemWire as MemWire
use Rattle.ch_net.specs.contracts.mem_wire.MemWire.TheInside as InsideWire
use Rattle.ch_net.specs.contracts.mem_wire.MemWireWire.TheImpl as wire
use Rattle.ch_net.specs.contracts.wire.Message as Message
use Rattle.ch_worker.specs.contracts.gate.NoGate as NoGate
use Rattle.ch_worker.specs.contracts.worker.Worker as Worker
use Rattle.ch_worker.proofs.Crossing.{worker_send}

link_send : IsSend MemLink.the_row
link_send =
    let inside : IsSend InsideLink.the_row = search (sendable, crosses) depth 24 in
    view_send InsideLink.the_row _ _ _ _ inside

message_send : IsSend Message.the_row
message_send = search (sendable, crosses, text_send) depth 24

wire_send : IsSend MemWire.the_row
wire_send =
    let inside : IsSend InsideWire.the_row = search (sendable, crosses, message_send, text_send) depth 24 in
    view_send InsideWire.the_row _ _ _ _ inside

arrival_send : IsSend (Arrival.the_row MemLink.the_row)
arrival_send = search (sendable, crosses, link_send) depth 24

pub arrivals_send : IsSend (MemArrivals.the_row MemLink.the_row)
arrivals_send =
    let inside : IsSend (InsideArrivals.the_row MemLink.the_row) = search (sendable, crosses, arrival_send) depth 24 in
    view_send (InsideArrivals.the_row MemLink.the_row) _ _ _ _ inside

gate_send : IsSend NoGate.the_row
gate_send = search (sendable, crosses) depth 24

pub one_worker_send : IsSend (Worker.the_row MemLink.the_row NoGate.the_row MemWire.the_row link.ghosts wire.ghosts)
one_worker_send = worker_send MemLink.the_row MemWire.the_row NoGate.the_row link.ghosts wire.ghosts link_send wire_send gate_send
