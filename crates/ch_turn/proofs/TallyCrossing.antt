use denote.Param.Send.{IsSend, IsSync, sendable}
use denote.Struct.Field.{u64-field}
use Rattle.ch_turn.specs.contracts.tally.Tally as Tally
use Rattle.ch_turn.specs.contracts.tally.Add as Add
use Rattle.ch_turn.specs.contracts.tally.TallyServed.TheImpl as served
use Rattle.ch_turn.specs.contracts.pass.Pass as Pass
use Rattle.ch_turn.specs.contracts.lock.TurnLock as Lock
use Rattle.ch_turn.proofs.Crossing.{pass_send, lock_sync}

tally_send : IsSend Tally.the_row
tally_send = search sendable depth 20

pub tally_pass : IsSend (Pass.the_row Tally.the_row Add.the_row u64-field.row served.ghosts)
tally_pass = pass_send Tally.the_row Add.the_row u64-field.row served.ghosts tally_send

pub tally_lock : IsSync (Lock.the_row Tally.the_row Add.the_row u64-field.row served.ghosts)
tally_lock = lock_sync Tally.the_row Add.the_row u64-field.row served.ghosts tally_send
