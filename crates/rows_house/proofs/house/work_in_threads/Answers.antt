use Rattle.std.proofs.Common.{ap, sym, ◌∙◌}
use Rattle.std.proofs.lemmas.Option.{slice_get_within, get_or_from_slice_get}
use denote.Param.Send.{sendable}
use Rattle.std.proofs.Crossing.{crosses}
use Rattle.ch_house.proofs.Crossing.{passes_send, house_sync}
use Rattle.rows_house.specs.declared.house.Worker.{Worker}
use Rattle.rows_house.proofs.house.work_in_threads.Goals as goal

pub for_each_mut-requires-send-T : goal.for_each_mut-requires-send-T
for_each_mut-requires-send-T g c κs within = search (sendable, crosses, house_sync, passes_send) depth 24

pub returns-clause-same : goal.returns-clause-same
returns-clause-same g c = λ i d e old new.
    let k = (c.for_each_mut.ensures i d (slice_get_within c.args.workers.now i d old)).1 in
    let was = get_or_from_slice_get c.args.workers.now i d d old in
    let now = get_or_from_slice_get c.for_each_mut.new.s i e d new in
    let left = k.left ∙ now in
    let argument = k.argument_is ∙ was in
    (ap (λ (w : Worker). w.desk.house) (sym left) ∙ (k.call.0 ∙ ap (λ (w : Worker). w.desk.house) argument), ap (λ (w : Worker). w.desk.caller) (sym left) ∙ (k.call.1 ∙ ap (λ (w : Worker). w.desk.caller) argument))
