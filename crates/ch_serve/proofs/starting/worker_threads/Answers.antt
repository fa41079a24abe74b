use Rattle.std.proofs.Common.{◌≡◌, ◌<◌, [], ◌∷◌, length, None, ◌∙◌, ap, arith, length-append, length-set}
use Rattle.std.proofs.lemmas.Option.{same_Some}
use Rattle.ch_house.specs.Houses.{fresh_passes}
use Rattle.ch_worker.specs.Workers.{new_worker}
use Rattle.ch_serve.proofs.Places.{emptied_next, left_next}
use Rattle.ch_serve.proofs.NewThreads.{new_more}
use Rattle.ch_serve.specs.Served.{seat}
use Rattle.ch_serve.proofs.starting.worker_threads.Goals as goal

pub loop-number-preserved : goal.loop-number-preserved
loop-number-preserved g c =
    let inv = c.loop-number.invariant in
    let n = c.loop-number.number in
    let within : n < length c.args.clocks.items = omega (arith, c.len-count.ensures, c.args.clocks.ok.0) in
    let slots = ap (λ l. l.slots) c.take.ensures.rest in
    let intake_slots = ap (λ l. l.slots) c.take-in-loop-number.ensures.rest in
    let site = c.args.site.now in
    let thread = c.in_ok-thread.thread in
    let own : c.in-Some-take.own ≡ fresh_passes site.house.now n =
    same_Some c.in-Some-take.own (fresh_passes site.house.now n) (c.in-Some-take.ensures.taken ∙ (inv.left n (omega arith) ∙ c.requires.passes n within)) in
    record {
      house = ap (λ l. l.house) c.take.ensures.rest ∙ inv.house;
      size = ap length slots ∙ (length-set c.loop-number.passes.slots n None ∙ inv.size);
      intake = ap (λ l. l.intake) c.take-in-loop-number.ensures.rest ∙ inv.intake;
      clocks = omega (arith, c.in-Some.ensures.len, inv.clocks);
      count = omega (arith, ap length c.push_reserved.ensures.items, length-append c.loop-number.threads.items (thread ∷ []), inv.count);
      room = omega (arith, inv.room, c.push_reserved.ensures.capacity);
      emptied = emptied_next c.loop-number.passes.slots c.take.new.self.slots n slots inv.emptied;
      left = left_next c.args.passes.now.slots c.loop-number.passes.slots c.take.new.self.slots n None slots inv.left;
      slots_left = left_next c.args.slots.now.slots c.loop-number.slots.slots c.take-in-loop-number.new.self.slots n None intake_slots inv.slots_left;
      threads = new_more site.config.now site.start site.house.now n c.loop-number.threads.items c.push_reserved.new.self.items thread inv.count c.push_reserved.ensures.items
          (c.in_ok-thread.ensures ∙ ap (seat (new_worker site.config.now site.start)) own) inv.threads;
    }
