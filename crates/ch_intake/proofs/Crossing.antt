-- A pass may go to another thread, and an intake may be shared, where its items may go to another thread.
use denote.RattleType.{RattleType}
use denote.Struct.Struct.{Struct}
use denote.Struct.Owning.{shape}
use denote.Param.Send.{IsSend, IsSync, sendable, part_keyless, view_send, view_sync}
use Rattle.std.proofs.Crossing.{crosses, frees}
use Rattle.std.specs.contracts.alloc.Global as Global
use Rattle.std.specs.contracts.impls.GlobalAllocator.TheImpl as heap
use Rattle.atomic_table.specs.declared.shared.TableRule as rule
use Rattle.atomic_table.specs.contracts.shared.Seat as Seat
use Rattle.atomic_table.specs.contracts.shared.Shared as Shared
use Rattle.atomic_table.specs.contracts.send_lease.SendLease as Lease
use Rattle.atomic_table.proofs.Sent.{seat_keyless, shares_keyless}
use Rattle.atomic_table.proofs.Rights.{right_send}
use Rattle.ch_intake.specs.contracts.intake.Intake as Intake
use Rattle.ch_intake.specs.contracts.intake.Intake.TheInside as InsideIntake
use Rattle.ch_intake.specs.contracts.pass.IntakePass as IntakePass
use Rattle.ch_intake.specs.contracts.pass.IntakePass.TheInside as InsidePass

seat_send : (S V : RattleType) → IsSend S → IsSend (Seat.the_row S V)
seat_send S V s = record { owned = λ d vs. ((λ vss. (tt, ((λ uss. (tt, tt)), tt))), seat_keyless S s V.coded.code d.table_id d.id d.me); leaving = λ k f vs. tt }

shared_sync : (S V K P : RattleType) (g : rule.Ghosts P.Denot S.Denot V.Denot K.Denot) → IsSend S → IsSync (Shared.the_row S V K P g)
shared_sync S V K P g s = let fields : IsSync (Struct (shape (Shared.the_type S V K P g))) = search sendable depth 20 in
    record { shared = λ d b o ν. (fields.shared (d.words, (d.slots, (tt, tt))) b o ν, shares_keyless S s V.coded.code d.table_id (g.holds d.key) d.words d.slots ν) }

lease_sync : (T : RattleType) → IsSend T → IsSync (Lease.the_row T Global.the_row heap.ghosts)
lease_sync T s = record { shared = λ d b o ν q. part_keyless (Lease.the_row T Global.the_row heap.ghosts) (right_send T Global.the_row heap.ghosts frees) q d b o }

pub intake_pass_send : (C : RattleType) → IsSend C → IsSend (IntakePass.the_row C)
intake_pass_send C s =
    let inside : IsSend (InsidePass.the_row C) = search (sendable, crosses, seat_send) depth 24 in
    view_send (InsidePass.the_row C) _ _ _ _ inside

pub intake_sync : (C : RattleType) → IsSend C → IsSync (Intake.the_row C)
intake_sync C s =
    let inside : IsSync (InsideIntake.the_row C) = search (sendable, crosses, shared_sync, lease_sync) depth 24 in
    view_sync (InsideIntake.the_row C) _ _ _ _ inside
