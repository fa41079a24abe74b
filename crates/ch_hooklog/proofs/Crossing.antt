-- What may go to another thread.
use denote.Param.Send.{IsSend, sendable, view_send}
use Rattle.std.proofs.Crossing.{crosses}
use Rattle.ch_base.proofs.Crossing.{hook_send}
use Rattle.ch_history.proofs.Crossing.{held_notice_send}
use Rattle.ch_hooklog.specs.contracts.hook_log.HookLog as HookLog
use Rattle.ch_hooklog.specs.contracts.hook_log.HookLog.TheInside as Inside

pub hook_log_send : IsSend HookLog.the_row
hook_log_send =
    let inside : IsSend Inside.the_row = search (sendable, crosses, hook_send, held_notice_send) depth 24 in
    view_send Inside.the_row _ _ _ _ inside
