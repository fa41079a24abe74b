-- What may go to another thread.
use denote.Param.Send.{IsSend, sendable, view_send}
use Rattle.std.proofs.Crossing.{crosses}
use Rattle.std.proofs.MapsCrossing as maps
use Rattle.ch_base.proofs.Crossing.{text_send}
use Rattle.ch_history.proofs.Crossing.{subscription_send}
use Rattle.ch_subs.specs.contracts.subs.Subs as Subs
use Rattle.ch_subs.specs.contracts.subs.Subs.TheInside as Inside

pub subs_send : IsSend Subs.the_row
subs_send =
    let inside : IsSend Inside.the_row = search (sendable, crosses, maps.crosses, text_send, subscription_send) depth 40 in
    view_send Inside.the_row _ _ _ _ inside
