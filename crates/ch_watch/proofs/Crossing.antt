-- What may go to another thread.
use denote.Param.Send.{IsSend, sendable, view_send}
use Rattle.std.proofs.Crossing.{crosses}
use Rattle.std.proofs.MapsCrossing as maps
use Rattle.ch_base.proofs.Crossing.{text_send}
use Rattle.ch_history.proofs.Crossing.{user_socket_send}
use Rattle.ch_watch.specs.contracts.user_rows.UserRows as UserRows
use Rattle.ch_watch.specs.contracts.user_rows.UserRows.TheInside as InsideRows
use Rattle.ch_watch.specs.contracts.watches.Watches as Watches
use Rattle.ch_watch.specs.contracts.watches.Watches.TheInside as Inside

user_rows_send : IsSend UserRows.the_row
user_rows_send =
    let inside : IsSend InsideRows.the_row = search (sendable, crosses, maps.crosses, text_send, user_socket_send) depth 40 in
    view_send InsideRows.the_row _ _ _ _ inside

pub watches_send : IsSend Watches.the_row
watches_send =
    let inside : IsSend Inside.the_row = search (sendable, crosses, user_rows_send) depth 24 in
    view_send Inside.the_row _ _ _ _ inside
