use Rattle.std.proofs.Common.{◌∙◌, subst}
use Rattle.std.proofs.lemmas.Option.{slice_get_within, get_or_from_slice_get}
use denote.Param.Send.{sendable}
use Rattle.std.proofs.Crossing.{crosses}
use Rattle.ch_house.proofs.Crossing.{passes_send, house_sync}
use Rattle.ch_intake.proofs.Crossing.{intake_sync, intake_pass_send}
use Rattle.ch_worker.proofs.Crossing.{worker_send}
use Rattle.ch_serve.specs.Served.{Seat, Turned}
use Rattle.ch_serve.proofs.threads.work_in_threads.Goals as goal

pub for_each_mut-requires-send-T : goal.for_each_mut-requires-send-T
for_each_mut-requires-send-T g c κs within =
    let links = c.type_bounds.send-L in
    let wires = c.type_bounds.send-L-Wire in
    let clocks = c.type_bounds.send-C in
    search (sendable, crosses, house_sync, passes_send, intake_sync, intake_pass_send, worker_send) depth 30

pub returns : goal.returns
returns g c = (
  c.for_each_mut.auto.s,
  λ i s t old new.
      let k = (c.for_each_mut.ensures i s (slice_get_within c.args.workers.now i s old)).1 in
      let was = k.argument_is ∙ get_or_from_slice_get c.args.workers.now i s s old in
      let left = k.left ∙ get_or_from_slice_get c.for_each_mut.new.s i t s new in
      subst (λ (x : Seat). Turned c.args.turns s x) left (subst (λ (x : Seat). Turned c.args.turns x k.after_call.now) was k.call),
)
