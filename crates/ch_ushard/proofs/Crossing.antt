-- What may go to another thread.
use denote.Param.Send.{IsSend, sendable, view_send}
use Rattle.std.proofs.Crossing.{crosses}
use Rattle.ch_outbox.proofs.Crossing.{outbox_send}
use Rattle.ch_watch.proofs.Crossing.{watches_send}
use Rattle.ch_ushard.specs.contracts.seat.UserSeat as UserSeat
use Rattle.ch_ushard.specs.contracts.shard.UserShard as UserShard
use Rattle.ch_ushard.specs.contracts.shard.UserShard.TheInside as Inside

user_shard_send : IsSend UserShard.the_row
user_shard_send =
    let inside : IsSend Inside.the_row = search (sendable, crosses, watches_send, outbox_send) depth 24 in
    view_send Inside.the_row _ _ _ _ inside

pub user_seat_send : IsSend UserSeat.the_row
user_seat_send = search (sendable, crosses, user_shard_send) depth 24
