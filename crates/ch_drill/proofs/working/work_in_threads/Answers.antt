use Rattle.std.proofs.Common.{rules, ◌≡◌, List, length, drop, ap, sym, ◌∙◌}
use Rattle.std.specs.Prelude.{slice_get}
use Rattle.std.proofs.lemmas.List.{take_at}
use Rattle.std.proofs.lemmas.Option.{slice_get_within, get_or_from_slice_get}
use denote.Param.Send.{sendable}
use Rattle.std.proofs.Crossing.{crosses}
use Rattle.ch_house.proofs.Crossing.{house_sync, passes_send}
use Rattle.ch_drill.specs.declared.seat.Seat.{Seat}
use Rattle.ch_drill.proofs.Crossing.{arrivals_send, one_worker_send}
use Rattle.ch_drill.proofs.working.work_in_threads.Goals as goal

pub for_each_mut-requires-send-T : goal.for_each_mut-requires-send-T
for_each_mut-requires-send-T g c κs within = search (sendable, crosses, house_sync, passes_send, arrivals_send, one_worker_send) depth 24

pub returns-clause-same : goal.returns-clause-same
returns-clause-same g c = λ i old new at_old at_new.
    let lent = c.for_each_mut.new.s in
    let long : length lent ≡ c.args.seats.now.len = search rules in
    let whole = take_at lent (drop (length lent) c.args.seats.now.items) c.args.seats.now.len long in
    let given = ap (λ (l : List Seat). slice_get l i) c.as_mut_slice.ensures.value ∙ at_old in
    let left = ap (λ (l : List Seat). slice_get l i) (sym whole) ∙ at_new in
    let k = (c.for_each_mut.ensures i old (slice_get_within c.as_mut_slice.result.now i old given)).1 in
    let was = k.argument_is ∙ get_or_from_slice_get c.as_mut_slice.result.now i old old given in
    let now = k.left ∙ get_or_from_slice_get lent i new old left in
    (ap (λ (s : Seat). s.desk.house) (sym now) ∙ (k.call.0 ∙ ap (λ (s : Seat). s.desk.house) was), ap (λ (s : Seat). s.desk.caller) (sym now) ∙ (k.call.1 ∙ ap (λ (s : Seat). s.desk.caller) was))
