-- What may go to another thread.
use denote.Param.Send.{IsSend, sendable, view_send}
use Rattle.std.proofs.Crossing.{crosses}
use Rattle.std.proofs.MapsCrossing as maps
use Rattle.ch_base.proofs.Crossing.{text_send, member_send}
use Rattle.ch_presence.specs.contracts.present.Present as Present
use Rattle.ch_presence.specs.contracts.presence.Presence as Presence
use Rattle.ch_presence.specs.contracts.presence.Presence.TheInside as Inside

present_send : IsSend Present.the_row
present_send = search (sendable, crosses, text_send, member_send) depth 24

pub presence_send : IsSend Presence.the_row
presence_send =
    let inside : IsSend Inside.the_row = search (sendable, crosses, maps.crosses, text_send, present_send) depth 40 in
    view_send Inside.the_row _ _ _ _ inside
