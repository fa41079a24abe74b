use Rattle.std.proofs.Common.{◌≡◌, ℕ, ◌+◌, length, get_or, None, ap, sym, ◌∙◌, subst, arith, length-set}
use Rattle.std.proofs.lemmas.Option.{same_Some}
use Rattle.ch_house.specs.Houses.{PassesListModel, PassesModel, fresh_passes}
use Rattle.ch_serve.proofs.Finishing.{all_seated, still_own, worked}
use Rattle.ch_serve.proofs.Places.{emptied_next}
use Rattle.ch_serve.specs.Webhooks.{Rounds}
use Rattle.ch_serve.proofs.running.run_house.Goals as goal

pub run_all-workers-requires-clause-desks : goal.run_all-workers-requires-clause-desks
run_all-workers-requires-clause-desks g c κs within =
    let site = c.args.site.now in
    all_seated site.config.now site.start site.house.now c.in_ok-workers.workers.items c.requires.shards c.in_ok-workers.ensures.threads

pub give_back-workers-requires-clause-own : goal.give_back-workers-requires-clause-own
give_back-workers-requires-clause-own g c = λ i t at.
    let site = c.args.site.now in
    let own = still_own site.config.now site.start c.args.turns site.house.now c.in_ok-workers.workers.items c.run_all-workers.result.0.items c.in_ok-workers.ensures.threads
    c.run_all-workers.ensures.workers i t at in
    let house : c.take.new.self.house ≡ site.house.now = ap (λ (l : PassesListModel). l.house) c.take.ensures.rest ∙ (c.in_ok-workers.ensures.own.0 ∙ c.requires.own.0) in
    (own.0 ∙ sym house, own.1)

pub give_back-workers-requires-clause-empty : goal.give_back-workers-requires-clause-empty
give_back-workers-requires-clause-empty g c = λ i below.
    let number = c.args.site.now.config.now.workers in
    let slots = ap (λ (l : PassesListModel). l.slots) c.take.ensures.rest in
    let many = c.in_ok-workers.ensures.count in
    emptied_next c.worker_threads.new.passes.slots c.take.new.self.slots number slots
    (λ k h. c.in_ok-workers.ensures.taken k (omega (arith, c.requires.clocks))) i (omega (arith, c.run_all-workers.ensures.workers.0, many, c.requires.clocks))

pub give_back-workers-requires-clause-size : goal.give_back-workers-requires-clause-size
give_back-workers-requires-clause-size g c =
    let slots = ap (λ (l : PassesListModel). length l.slots) c.take.ensures.rest in
    omega (
      arith,
      slots,
      length-set c.worker_threads.new.passes.slots c.args.site.now.config.now.workers None,
      c.in_ok-workers.ensures.size,
      c.requires.size,
      c.run_all-workers.ensures.workers.0,
      c.in_ok-workers.ensures.count,
      c.requires.clocks,
    )

pub give-requires-clause-empty : goal.give-requires-clause-empty
give-requires-clause-empty g c =
    let number = c.args.site.now.config.now.workers in
    let slots = ap (λ (l : PassesListModel). l.slots) c.take.ensures.rest in
    let caller = ap (λ (p : PassesModel). p.caller) c.into_passes.ensures ∙ (c.run_all-workers.ensures.webhooks.caller ∙ (ap (λ (p : PassesModel). p.caller) c.new.ensures ∙ c.in-Some.ensures.own.1)) in
    ap (λ (k : ℕ). get_or c.give_back-workers.new.passes.slots k None) caller
    ∙ (c.give_back-workers.ensures.left number (omega (arith, c.run_all-workers.ensures.workers.0, c.in_ok-workers.ensures.count, c.requires.clocks))
    ∙ emptied_next c.worker_threads.new.passes.slots c.take.new.self.slots number slots
    (λ k h. c.in_ok-workers.ensures.taken k (omega (arith, c.requires.clocks))) number (omega arith))

pub returns-clause-worked : goal.returns-clause-worked
returns-clause-worked g c =
    let site = c.args.site.now in
    let number = site.config.now.workers in
    let house = site.house.now in
    let size = ap (λ (l : PassesListModel). length l.slots) c.take.ensures.rest in
    let slots : length c.take.new.self.slots ≡ number + 1 =
    omega (arith, size, length-set c.worker_threads.new.passes.slots number None, c.in_ok-workers.ensures.size, c.requires.size) in
    let caller = ap (λ (p : PassesModel). p.caller) c.into_passes.ensures ∙ (c.run_all-workers.ensures.webhooks.caller ∙ (ap (λ (p : PassesModel). p.caller) c.new.ensures ∙ c.in-Some.ensures.own.1)) in
    let own : c.in-Some.own ≡ fresh_passes house number = same_Some c.in-Some.own (fresh_passes house number)
    (c.in-Some.ensures.taken ∙ (c.in_ok-workers.ensures.left number (omega (arith, c.requires.clocks)) ∙ c.requires.passes number (omega arith))) in
    let did = subst (λ (p : PassesModel). Rounds c.args.turns c.args.ends.sending c.new.result p) (sym c.into_passes.ensures) c.run_all-workers.ensures.webhooks in
    worked site.config.now c.args.turns site.start house c.in_ok-workers.workers.items c.run_all-workers.result.0.items c.give_back-workers.result.items
    c.take.new.self c.give_back-workers.new.passes c.give.new.self (Rounds c.args.turns c.args.ends.sending) c.new.result c.into_passes.result
    c.in_ok-workers.ensures.threads (c.in_ok-workers.ensures.count ∙ c.requires.clocks) c.run_all-workers.ensures.workers c.give_back-workers.ensures slots caller
    c.give.ensures (c.new.ensures ∙ own) did
