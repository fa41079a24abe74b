-- A pass may go to another thread, and a lock may be shared, where its value may go to another thread.
use denote.RattleType.{RattleType}
use denote.Struct.Struct.{Struct}
use denote.Struct.Owning.{shape}
use denote.Param.Send.{IsSend, IsSync, Frees, sendable, part_keyless, view_send, view_sync, param_send, param_sync}
use denote.Param.SendFields.{declared_sync, as_row_sync}
use Rattle.std.proofs.Crossing.{crosses, frees, send, sync}
use Rattle.atomic_table.specs.declared.shared.TableRule as rule
use Rattle.atomic_table.specs.contracts.shared.Seat as Seat
use Rattle.atomic_table.specs.contracts.shared.Shared as Shared
use Rattle.atomic_table.proofs.Sent.{seat_keyless, shares_keyless}
use Rattle.atomic_table.proofs.Rights.{right_send}
use Rattle.atomic_table.specs.contracts.send_lease.SendLease as Lease
use Rattle.std.specs.declared.alloc.Allocator as alloc
use Rattle.ch_base.specs.declared.served.Served.{Ghosts}
use denote.Struct.Field.{u64-field, row_field}
use Rattle.std.specs.contracts.alloc.Global as Global
use Rattle.std.specs.contracts.impls.GlobalAllocator.TheImpl as heap
use Rattle.atomic_table.specs.contracts.owned.Table as Table
use Rattle.ch_turn.specs.contracts.table.OneHistoryTableRuleSlotCallAnswerViewCallAnswerOpening.TheImpl as rules
use Rattle.ch_turn.specs.contracts.table.Opening as Opening
use Rattle.ch_turn.specs.contracts.table.OneHistory as OneHistory
use Rattle.ch_turn.specs.contracts.table.View as View
use Rattle.ch_turn.specs.contracts.table.Slot as Slot
use Rattle.ch_turn.specs.contracts.lock.TurnLock as Lock
use Rattle.ch_turn.specs.contracts.lock.TurnLock.TheInside as InsideLock
use Rattle.ch_turn.specs.contracts.pass.Pass as Pass
use Rattle.ch_turn.specs.contracts.pass.Pass.TheInside as InsidePass

pub seat_send : (S V : RattleType) → IsSend S → IsSend (Seat.the_row S V)
seat_send S V s = record { owned = λ d vs. ((λ vss. (tt, ((λ uss. (tt, tt)), tt))), seat_keyless S s V.coded.code d.table_id d.id d.me); leaving = λ k f vs. tt }

pub slot_send : (T C A : RattleType) → IsSend T → IsSend (Slot.the_row T C A)
slot_send T C A s = search (sendable, crosses) depth 24

pub pass_send : (T C A : RattleType) (g : Ghosts T.Denot C.Denot A.Denot) → IsSend T → IsSend (Pass.the_row T C A g)
pass_send T C A g s =
    let slot = slot_send T C A s in
    let inside : IsSend (InsidePass.the_row T C A g) = search (sendable, crosses, seat_send) depth 24 in
    view_send (InsidePass.the_row T C A g) _ _ _ _ inside

pub shared_sync : (S V K P : RattleType) (g : rule.Ghosts P.Denot S.Denot V.Denot K.Denot) → IsSend S → IsSync (Shared.the_row S V K P g)
shared_sync S V K P g s = let fields : IsSync (Struct (shape (Shared.the_type S V K P g))) = search sendable depth 20 in
    record { shared = λ d b o ν. (fields.shared (d.words, (d.slots, (tt, tt))) b o ν, shares_keyless S s V.coded.code d.table_id (g.holds d.key) d.words d.slots ν) }

pub lease_sync : (T A : RattleType) (g : alloc.Ghosts A.Denot) → IsSend A → Frees g g.dealloc_token → IsSync (Lease.the_row T A g)
lease_sync T A g s f = record { shared = λ d b o ν q. part_keyless (Lease.the_row T A g) (right_send T A g f) q d b o }

pub table_sync : (T C A : RattleType) (g : Ghosts T.Denot C.Denot A.Denot) → IsSend T
    → IsSync (Table.the_row (Slot.the_row T C A) (View.the_row C A) (Opening.the_row T) (OneHistory.the_row T) Global.the_row (rules.ghosts T C A g rules.no_dict rules.no_dict rules.no_dict rules.no_dict) heap.ghosts)
table_sync T C A g s =
    let slot = slot_send T C A s in
    let shared = shared_sync (Slot.the_row T C A) (View.the_row C A) (Opening.the_row T) (OneHistory.the_row T) (rules.ghosts T C A g rules.no_dict rules.no_dict rules.no_dict rules.no_dict) slot in
    let words = lease_sync u64-field.row Global.the_row heap.ghosts send frees in
    let slots = lease_sync (Slot.the_row T C A) Global.the_row heap.ghosts send frees in
    let count : IsSync u64-field.row = search sendable depth 12 in
    declared_sync (Table.the_type (Slot.the_row T C A) (View.the_row C A) (Opening.the_row T) (OneHistory.the_row T) Global.the_row (rules.ghosts T C A g rules.no_dict rules.no_dict rules.no_dict rules.no_dict) heap.ghosts) (
      as_row_sync (Shared.the_field (Slot.the_row T C A) (View.the_row C A) (Opening.the_row T) (OneHistory.the_row T) (rules.ghosts T C A g rules.no_dict rules.no_dict rules.no_dict rules.no_dict)) shared,
      (as_row_sync u64-field count, (as_row_sync u64-field count, (as_row_sync (Lease.the_field u64-field.row Global.the_row heap.ghosts) words, (as_row_sync (Lease.the_field (Slot.the_row T C A) Global.the_row heap.ghosts) slots, (as_row_sync (row_field Global.the_row) sync, tt))))),
    )

pub lock_sync : (T C A : RattleType) (g : Ghosts T.Denot C.Denot A.Denot) → IsSend T → IsSync (Lock.the_row T C A g)
lock_sync T C A g s =
    let table = table_sync T C A g s in
    let inside : IsSync (InsideLock.the_row T C A g) = declared_sync (InsideLock.the_type T C A g) (table, tt) in
    view_sync (InsideLock.the_row T C A g) _ _ _ _ inside

-- what a caller's search lists
pub ruleset crosses_lock = (sendable, crosses, pass_send, lock_sync)
