-- Clients may go to another thread, where their links and wires may.
use denote.RattleType.{RattleType}
use denote.Param.Send.{IsSend, sendable, view_send}
use denote.Param.SendFields.{declared_send, as_row_send, variants_send}
use denote.Struct.Field.{u64-field, usize-field, row_field}
use Rattle.std.proofs.Crossing.{crosses, send}
use Rattle.std.specs.contracts.alloc.Global as Global
use Rattle.std.specs.contracts.impls.GlobalAllocator.TheImpl as heap
use Rattle.circular_buffer.specs.contracts.ring.Ring as Ring
use Rattle.circular_buffer.specs.contracts.cells.Base as Base
use Rattle.circular_buffer.specs.contracts.cells.Cells as Cells
use Rattle.circular_buffer.specs.contracts.cells.Deed as Deed
use Rattle.circular_buffer.specs.contracts.heap.HeapCircularBuffer as Buffer
use Rattle.circular_buffer.specs.contracts.heap.HeapCircularBuffer.TheInside as InsideBuffer
use Rattle.circular_buffer.proofs.Crosses.{Cells-send, Deed-send}
use Rattle.ch_base.proofs.Crossing.{text_send, frame_send, printed_send, printed_sync}
use Rattle.ch_base.specs.contracts.frame.Frame as Frame
use Rattle.ch_rate.specs.contracts.activity.Activity as Activity
use Rattle.ch_rate.specs.contracts.rate.Rate as Rate
use Rattle.ch_rate.specs.contracts.rate.Rate.TheInside as InsideRate
use Rattle.ch_session.specs.contracts.account.Account as Account
use Rattle.ch_session.specs.contracts.account.Account.TheInside as InsideAccount
use Rattle.ch_session.specs.contracts.session.Session as Session
use Rattle.ch_session.specs.contracts.session.Session.TheInside as InsideSession
use Rattle.ch_live.specs.contracts.live.Live as Live
use Rattle.ch_live.specs.contracts.peer.Peer as Peer
use Rattle.ch_live.specs.contracts.waiting.Form as Form
use Rattle.ch_live.specs.contracts.waiting.Waiting as Waiting
use Rattle.ch_live.specs.contracts.waiting.Waiting.TheInside as InsideWaiting
use Rattle.ch_live.specs.contracts.backlog.Backlog as Backlog
use Rattle.ch_live.specs.contracts.backlog.Backlog.TheInside as InsideBacklog
use Rattle.ch_live.specs.contracts.connection.Connection as Connection
use Rattle.ch_live.specs.contracts.connection.Connection.TheInside as InsideConnection
use Rattle.ch_http.specs.contracts.reader.RequestReader as RequestReader
use Rattle.ch_http.specs.contracts.reader.RequestReader.TheInside as InsideReader
use Rattle.ch_exchange.specs.contracts.pending.PendingReply as PendingReply
use Rattle.ch_exchange.specs.contracts.pending.PendingReply.TheInside as InsidePending
use Rattle.ch_exchange.specs.contracts.stage.Stage as Stage
use Rattle.ch_exchange.specs.contracts.exchange.Exchange as Exchange
use Rattle.ch_config.specs.contracts.address.Target as Target
use Rattle.ch_config.specs.contracts.config.Config as Config
use Rattle.ch_clients.specs.contracts.server.Server as Server
use Rattle.ch_net.specs.declared.link.Link.{Ghosts as LinkGhosts}
use Rattle.ch_net.specs.declared.wire.Wire.{Ghosts as WireGhosts}
use Rattle.ch_clients.specs.contracts.client.Protocol as Protocol
use Rattle.ch_clients.specs.contracts.client.Client as Client
use Rattle.ch_clients.specs.contracts.client.Client.TheInside as InsideClient
use Rattle.ch_clients.specs.contracts.connected.Connected as Connected
use Rattle.ch_clients.specs.contracts.connected.Connected.TheInside as InsideConnected
use Rattle.ch_clients.specs.contracts.leaving.Leaving as Leaving
use Rattle.ch_clients.specs.contracts.leaving.Leaving.TheInside as InsideLeaving
use Rattle.ch_clients.specs.contracts.lists.Lists as Lists
use Rattle.ch_clients.specs.contracts.clients.Clients as Clients
use Rattle.ch_clients.specs.contracts.clients.Clients.TheInside as InsideClients

-- ---- a live socket

activity_send : IsSend Activity.the_row
activity_send = search (sendable, crosses) depth 24

rate_send : IsSend Rate.the_row
rate_send =
    let inside : IsSend InsideRate.the_row = search (sendable, crosses) depth 24 in
    view_send InsideRate.the_row _ _ _ _ inside

account_send : IsSend Account.the_row
account_send =
    let inside : IsSend InsideAccount.the_row = search (sendable, crosses, text_send, rate_send) depth 24 in
    view_send InsideAccount.the_row _ _ _ _ inside

session_send : IsSend Session.the_row
session_send =
    let inside : IsSend InsideSession.the_row = search (sendable, crosses, account_send, activity_send) depth 24 in
    view_send InsideSession.the_row _ _ _ _ inside

form_send : IsSend Form.the_row
form_send = search (sendable, crosses, frame_send, printed_send, printed_sync, variants_send) depth 30

-- a frame that waits may be shared by sockets of several threads
waiting_send : IsSend Waiting.the_row
waiting_send =
    let inside : IsSend InsideWaiting.the_row = declared_send InsideWaiting.the_type (form_send, tt) in
    view_send InsideWaiting.the_row _ _ _ _ inside

-- the ring's fields in order: its base, three numbers, its cells, their deed, and the allocator
ring_send : IsSend (Ring.the_row Waiting.the_row Global.the_row heap.ghosts)
ring_send =
    let base : IsSend (Base.the_row Waiting.the_row) = search (sendable, crosses) depth 24 in
    let number : IsSend usize-field.row = search sendable depth 12 in
    let cells = Cells-send Waiting.the_row waiting_send in
    let deed : IsSend (Deed.the_row Waiting.the_row Global.the_row heap.ghosts) = search (sendable, crosses, Deed-send) depth 24 in
    let count = as_row_send usize-field number in
    let held = as_row_send (Cells.the_field Waiting.the_row) cells in
    let owned = as_row_send (Deed.the_field Waiting.the_row Global.the_row heap.ghosts) deed in
    let heap_send = as_row_send (row_field Global.the_row) send in
    declared_send (Ring.the_type Waiting.the_row Global.the_row heap.ghosts) (base, (count, (count, (count, (held, (owned, (heap_send, tt)))))))

buffer_send : IsSend (Buffer.the_row Waiting.the_row Global.the_row heap.ghosts)
buffer_send =
    let inside : IsSend (InsideBuffer.the_row Waiting.the_row Global.the_row heap.ghosts) = declared_send (InsideBuffer.the_type Waiting.the_row Global.the_row heap.ghosts) (ring_send, tt) in
    view_send (InsideBuffer.the_row Waiting.the_row Global.the_row heap.ghosts) _ _ _ _ inside

backlog_send : IsSend Backlog.the_row
backlog_send =
    let inside : IsSend InsideBacklog.the_row = search (sendable, crosses, buffer_send) depth 24 in
    view_send InsideBacklog.the_row _ _ _ _ inside

connection_send : IsSend Connection.the_row
connection_send =
    let inside : IsSend InsideConnection.the_row = search (sendable, crosses, session_send, backlog_send) depth 24 in
    view_send InsideConnection.the_row _ _ _ _ inside

peer_send : IsSend Peer.the_row
peer_send = search (sendable, crosses, connection_send) depth 24

pub live_send : (W : RattleType) → IsSend W → IsSend (Live.the_row W)
live_send W s =
    let heap_send = as_row_send (row_field Global.the_row) send in
    declared_send (Live.the_type W) (heap_send, (as_row_send (row_field W) s, (peer_send, tt)))

-- ---- an exchange

reader_send : IsSend RequestReader.the_row
reader_send =
    let inside : IsSend InsideReader.the_row = search (sendable, crosses) depth 24 in
    view_send InsideReader.the_row _ _ _ _ inside

pending_send : IsSend PendingReply.the_row
pending_send =
    let inside : IsSend InsidePending.the_row = search (sendable, crosses) depth 24 in
    view_send InsidePending.the_row _ _ _ _ inside

stage_send : IsSend Stage.the_row
stage_send = search (sendable, crosses, reader_send, pending_send) depth 24

pub exchange_send : (L : RattleType) → IsSend L → IsSend (Exchange.the_row L)
exchange_send L s =
    let heap_send = as_row_send (row_field Global.the_row) send in
    declared_send (Exchange.the_type L) (heap_send, (as_row_send (row_field L) s, (stage_send, tt)))

-- ---- what clients are served with

target_send : IsSend Target.the_row
target_send = search (sendable, crosses, text_send) depth 24

config_send : IsSend Config.the_row
config_send = search (sendable, crosses, text_send, target_send) depth 24

server_send : IsSend Server.the_row
server_send =
    let heap_send = as_row_send (row_field Global.the_row) send in
    let number : IsSend u64-field.row = search sendable depth 12 in
    declared_send Server.the_type (heap_send, (config_send, (as_row_send u64-field number, tt)))

pub leaving_send : (W : RattleType) → IsSend W → IsSend (Leaving.the_row W)
leaving_send W s =
    let live = live_send W s in
    let inside : IsSend (InsideLeaving.the_row W) = search (sendable, crosses) depth 24 in
    view_send (InsideLeaving.the_row W) _ _ _ _ inside

-- an enum of an exchange or a live socket
protocol_send : (L W : RattleType) → IsSend L → IsSend W → IsSend (Protocol.the_row L W)
protocol_send L W s t =
    let live : IsSend (Live.the_row W) = live_send W t in
    let exchange : IsSend (Exchange.the_row L) = exchange_send L s in
    search (sendable, crosses, live, exchange, variants_send) depth 30

module _ (L W : RattleType) (l : LinkGhosts L.Denot W.Denot) (w : WireGhosts W.Denot) (s : IsSend L) (t : IsSend W) where
  client_send : IsSend (Client.the_row L W l w)
  client_send =
      let number : IsSend u64-field.row = search sendable depth 12 in
      let inside : IsSend (InsideClient.the_row L W l w) = declared_send (InsideClient.the_type L W l w) (as_row_send u64-field number, (protocol_send L W s t, tt)) in
      view_send (InsideClient.the_row L W l w) _ _ _ _ inside

  connected_send : IsSend (Connected.the_row L W l w)
  connected_send =
      let inside : IsSend (InsideConnected.the_row L W l w) = search (sendable, crosses, client_send) depth 24 in
      view_send (InsideConnected.the_row L W l w) _ _ _ _ inside

  lists_send : IsSend (Lists.the_row L W l w)
  lists_send = declared_send (Lists.the_type L W l w) (connected_send, (leaving_send W t, tt))

  pub clients_send : IsSend (Clients.the_row L W l w)
  clients_send =
      let inside : IsSend (InsideClients.the_row L W l w) = declared_send (InsideClients.the_type L W l w) (server_send, (lists_send, tt)) in
      view_send (InsideClients.the_row L W l w) _ _ _ _ inside
