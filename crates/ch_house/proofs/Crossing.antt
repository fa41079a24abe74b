-- A caller's passes may go to another thread, and a row of locks may be shared, where its values may go to another thread.
use denote.RattleType.{RattleType}
use denote.Param.Send.{IsSend, IsSync, sendable, view_send, view_sync}
use denote.Param.SendFields.{declared_send, declared_sync, as_row_send, as_row_sync}
use Rattle.std.proofs.Crossing.{crosses}
use Rattle.ch_base.specs.declared.served.Served.{Ghosts}
use Rattle.ch_turn.specs.contracts.pass.Pass as Pass
use Rattle.ch_turn.specs.contracts.lock.TurnLock as Lock
use Rattle.ch_turn.proofs.Crossing.{pass_send, lock_sync}
use Rattle.ch_base.specs.contracts.channel.ChanCall as ChanCall
use Rattle.ch_base.specs.contracts.channel.ChanAnswer as ChanAnswer
use Rattle.ch_base.specs.contracts.user.UserCall as UserCall
use Rattle.ch_base.specs.contracts.user.UserAnswer as UserAnswer
use Rattle.ch_shard.specs.contracts.seat.ChanSeatServed.TheImpl as chan_served
use Rattle.ch_ushard.specs.contracts.seat.UserSeatServed.TheImpl as user_served
use Rattle.ch_house.specs.contracts.passes.Passes as Passes
use Rattle.ch_house.specs.contracts.passes.Passes.TheInside as InsidePasses
use Rattle.ch_house.specs.contracts.house.House as House
use Rattle.ch_house.specs.contracts.house.House.TheInside as InsideHouse
use Rattle.ch_shard.proofs.Crossing.{chan_seat_send}
use Rattle.ch_ushard.proofs.Crossing.{user_seat_send}
use Rattle.ch_house.specs.contracts.locks.Locks as Locks
use Rattle.ch_house.specs.contracts.locks.Locks.TheInside as InsideLocks
use Rattle.ch_house.specs.contracts.row_passes.RowPasses as RowPasses
use Rattle.ch_house.specs.contracts.row_passes.RowPasses.TheInside as InsideRowPasses
use Rattle.ch_shard.specs.contracts.seat.ChanSeat as ChanSeat
use Rattle.ch_ushard.specs.contracts.seat.UserSeat as UserSeat

pub locks_sync : (T C A : RattleType) (g : Ghosts T.Denot C.Denot A.Denot) → IsSend T → IsSync (Locks.the_row T C A g)
locks_sync T C A g s =
    let lock : IsSync (Lock.the_row T C A g) = lock_sync T C A g s in
    let inside : IsSync (InsideLocks.the_row T C A g) = search (sendable, crosses) depth 24 in
    view_sync (InsideLocks.the_row T C A g) _ _ _ _ inside

pub row_passes_send : (T C A : RattleType) (g : Ghosts T.Denot C.Denot A.Denot) → IsSend T → IsSend (RowPasses.the_row T C A g)
row_passes_send T C A g s =
    let pass : IsSend (Pass.the_row T C A g) = pass_send T C A g s in
    let inside : IsSend (InsideRowPasses.the_row T C A g) = search (sendable, crosses) depth 24 in
    view_send (InsideRowPasses.the_row T C A g) _ _ _ _ inside

pub passes_send : IsSend Passes.the_row
passes_send =
    let chans = row_passes_send ChanSeat.the_row ChanCall.the_row ChanAnswer.the_row chan_served.ghosts chan_seat_send in
    let users = row_passes_send UserSeat.the_row UserCall.the_row UserAnswer.the_row user_served.ghosts user_seat_send in
    let inside : IsSend InsidePasses.the_row = declared_send InsidePasses.the_type (as_row_send (RowPasses.the_field ChanSeat.the_row ChanCall.the_row ChanAnswer.the_row chan_served.ghosts) chans, (as_row_send (RowPasses.the_field UserSeat.the_row UserCall.the_row UserAnswer.the_row user_served.ghosts) users, tt)) in
    view_send InsidePasses.the_row _ _ _ _ inside

pub house_sync : IsSync House.the_row
house_sync =
    let chans = locks_sync ChanSeat.the_row ChanCall.the_row ChanAnswer.the_row chan_served.ghosts chan_seat_send in
    let users = locks_sync UserSeat.the_row UserCall.the_row UserAnswer.the_row user_served.ghosts user_seat_send in
    let inside : IsSync InsideHouse.the_row = declared_sync InsideHouse.the_type (as_row_sync (Locks.the_field ChanSeat.the_row ChanCall.the_row ChanAnswer.the_row chan_served.ghosts) chans, (as_row_sync (Locks.the_field UserSeat.the_row UserCall.the_row UserAnswer.the_row user_served.ghosts) users, tt)) in
    view_sync InsideHouse.the_row _ _ _ _ inside
