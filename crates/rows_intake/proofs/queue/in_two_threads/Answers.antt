use denote.Param.Send.{IsSend, IsSync, sendable}
use denote.Struct.Field.{u64-field}
use Rattle.std.proofs.Crossing.{crosses}
use Rattle.ch_intake.specs.contracts.intake.Intake as Intake
use Rattle.ch_intake.specs.contracts.pass.IntakePass as IntakePass
use Rattle.ch_intake.proofs.Crossing.{intake_sync, intake_pass_send}
use Rattle.rows_intake.proofs.queue.in_two_threads.Goals as goal

numbers : IsSend u64-field.row
numbers = search sendable depth 20

pass_of_numbers : IsSend (IntakePass.the_row u64-field.row)
pass_of_numbers = intake_pass_send u64-field.row numbers

intake_of_numbers : IsSync (Intake.the_row u64-field.row)
intake_of_numbers = intake_sync u64-field.row numbers

pub join-requires-send-F : goal.join-requires-send-F
join-requires-send-F g c κs within = let rt = c.type_bounds.sync-R in search (sendable, crosses, pass_of_numbers, intake_of_numbers) depth 24
