-- What may go to another thread.
use denote.Param.Send.{IsSend, sendable, view_send}
use denote.Param.SendFields.{declared_send, as_row_send}
use denote.Struct.Field.{usize-field, row_field}
use Rattle.std.proofs.Crossing.{crosses, send}
use Rattle.std.specs.contracts.alloc.Global as Global
use Rattle.std.specs.contracts.impls.GlobalAllocator.TheImpl as heap
use Rattle.circular_buffer.specs.contracts.ring.Ring as Ring
use Rattle.circular_buffer.specs.contracts.cells.Base as Base
use Rattle.circular_buffer.specs.contracts.cells.Cells as Cells
use Rattle.circular_buffer.specs.contracts.cells.Deed as Deed
use Rattle.circular_buffer.specs.contracts.heap.HeapCircularBuffer as Buffer
use Rattle.circular_buffer.specs.contracts.heap.HeapCircularBuffer.TheInside as InsideBuffer
use Rattle.circular_buffer.proofs.Crosses.{Cells-send, Deed-send}
use Rattle.ch_subs.proofs.Crossing.{subs_send}
use Rattle.ch_presence.proofs.Crossing.{presence_send}
use Rattle.ch_cache.proofs.Crossing.{cache_send}
use Rattle.ch_outbox.proofs.Crossing.{outbox_send}
use Rattle.ch_hooklog.proofs.Crossing.{hook_log_send}
use Rattle.ch_shard.specs.contracts.channels.Channels as Channels
use Rattle.ch_shard.specs.contracts.channels.Channels.TheInside as InsideChannels
use Rattle.ch_shard.specs.contracts.brief.Brief as Brief
use Rattle.ch_shard.specs.contracts.tail.Tail as Tail
use Rattle.ch_shard.specs.contracts.tail.Tail.TheInside as InsideTail
use Rattle.ch_shard.specs.contracts.shard.ChanShard as ChanShard
use Rattle.ch_shard.specs.contracts.shard.ChanShard.TheInside as InsideShard
use Rattle.ch_shard.specs.contracts.seat.ChanSeat as ChanSeat

channels_send : IsSend Channels.the_row
channels_send =
    let inside : IsSend InsideChannels.the_row = search (sendable, crosses, subs_send, presence_send, cache_send, outbox_send, hook_log_send) depth 24 in
    view_send InsideChannels.the_row _ _ _ _ inside

brief_send : IsSend Brief.the_row
brief_send = search sendable depth 24

-- the ring's fields in order: its base, three numbers, its cells, their deed, and the allocator
ring_send : IsSend (Ring.the_row Brief.the_row Global.the_row heap.ghosts)
ring_send =
    let base : IsSend (Base.the_row Brief.the_row) = search (sendable, crosses) depth 24 in
    let number : IsSend usize-field.row = search sendable depth 12 in
    let cells = Cells-send Brief.the_row brief_send in
    let deed : IsSend (Deed.the_row Brief.the_row Global.the_row heap.ghosts) = search (sendable, crosses, Deed-send) depth 24 in
    let count = as_row_send usize-field number in
    let held = as_row_send (Cells.the_field Brief.the_row) cells in
    let owned = as_row_send (Deed.the_field Brief.the_row Global.the_row heap.ghosts) deed in
    let heap_send = as_row_send (row_field Global.the_row) send in
    declared_send (Ring.the_type Brief.the_row Global.the_row heap.ghosts) (base, (count, (count, (count, (held, (owned, (heap_send, tt)))))))

buffer_send : IsSend (Buffer.the_row Brief.the_row Global.the_row heap.ghosts)
buffer_send =
    let inside : IsSend (InsideBuffer.the_row Brief.the_row Global.the_row heap.ghosts) = declared_send (InsideBuffer.the_type Brief.the_row Global.the_row heap.ghosts) (ring_send, tt) in
    view_send (InsideBuffer.the_row Brief.the_row Global.the_row heap.ghosts) _ _ _ _ inside

tail_send : IsSend Tail.the_row
tail_send =
    let inside : IsSend InsideTail.the_row = search (sendable, crosses, buffer_send) depth 24 in
    view_send InsideTail.the_row _ _ _ _ inside

chan_shard_send : IsSend ChanShard.the_row
chan_shard_send =
    let inside : IsSend InsideShard.the_row = search (sendable, crosses, channels_send, tail_send) depth 24 in
    view_send InsideShard.the_row _ _ _ _ inside

pub chan_seat_send : IsSend ChanSeat.the_row
chan_seat_send = search (sendable, crosses, chan_shard_send) depth 24
