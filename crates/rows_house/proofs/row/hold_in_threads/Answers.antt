use denote.Param.Send.{IsSend, IsSync, sendable}
use denote.Struct.Field.{u64-field}
use Rattle.std.proofs.Crossing.{crosses}
use Rattle.ch_turn.specs.contracts.tally.Add as Add
use Rattle.ch_house.specs.contracts.locks.Locks as Locks
use Rattle.ch_house.specs.contracts.row_passes.RowPasses as RowPasses
use Rattle.ch_house.proofs.Crossing.{locks_sync, row_passes_send}
use Rattle.rows_house.specs.contracts.held.Held as Held
use Rattle.rows_house.specs.contracts.held.HeldServed.TheImpl as served
use Rattle.rows_house.proofs.row.hold_in_threads.Goals as goal

held_send : IsSend Held.the_row
held_send = search (sendable, crosses) depth 24

held_passes : IsSend (RowPasses.the_row Held.the_row Add.the_row u64-field.row served.ghosts)
held_passes = row_passes_send Held.the_row Add.the_row u64-field.row served.ghosts held_send

held_locks : IsSync (Locks.the_row Held.the_row Add.the_row u64-field.row served.ghosts)
held_locks = locks_sync Held.the_row Add.the_row u64-field.row served.ghosts held_send

pub join-requires-send-F : goal.join-requires-send-F
join-requires-send-F g c κs within = let rt = c.type_bounds.sync-R in search (sendable, crosses, held_passes, held_locks) depth 24

pub join-requires-send-A : goal.join-requires-send-A
join-requires-send-A g c κs within = search (sendable, crosses, held_passes) depth 24
