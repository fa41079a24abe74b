-- What may go to another thread.
use denote.Param.Send.{IsSend, sendable}
use Rattle.std.proofs.Crossing.{crosses}
use Rattle.ch_base.proofs.Crossing.{text_send, member_send}
use Rattle.ch_history.specs.contracts.rows.Subscription as Subscription
use Rattle.ch_history.specs.contracts.rows.Cached as Cached
use Rattle.ch_history.specs.contracts.rows.UserSocket as UserSocket
use Rattle.ch_history.specs.contracts.rows.HeldNotice as HeldNotice

pub subscription_send : IsSend Subscription.the_row
subscription_send = search (sendable, crosses, text_send, member_send) depth 24

pub cached_send : IsSend Cached.the_row
cached_send = search (sendable, crosses, text_send) depth 24

pub user_socket_send : IsSend UserSocket.the_row
user_socket_send = search (sendable, crosses, text_send) depth 24

pub held_notice_send : IsSend HeldNotice.the_row
held_notice_send = search (sendable, crosses, text_send) depth 24
