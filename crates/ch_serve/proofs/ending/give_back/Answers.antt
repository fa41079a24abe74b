use Rattle.std.proofs.Common.{◌≡◌, ℕ, suc, ◌+◌, ◌<◌, List, [], ◌∷◌, ◌++◌, length, drop, set, get_or, None, Some, ap, ap₂, sym, ◌∙◌, subst, arith}
use Rattle.std.specs.Vec.Iter.{into_iter_items}
use Rattle.ch_house.proofs.Places.{drop_at}
use Rattle.ch_house.specs.Houses.{PassesModel}
use Rattle.ch_worker.specs.Workers.{WorkerView}
use Rattle.ch_serve.specs.GivenBack.{GivenBack}
use Rattle.ch_serve.specs.Served.{Seat}
use Rattle.ch_serve.proofs.GivingBack.{given_more, given_none}
use Rattle.ch_serve.proofs.ending.give_back.Goals as goal

pub give-requires-clause-own : goal.give-requires-clause-own
give-requires-clause-own g c =
    let inv = c.loop-place.invariant in
    let at = drop_at c.args.threads.items c.loop-place._place c.in-Some.thread (into_iter_items c.next.new.self) (sym inv.threads ∙ c.in-Some.ensures.items) in
    let own = c.requires.own c.loop-place._place c.in-Some.thread at.0 in
    let passes : c.into_passes.result ≡ c.in-Some.thread.passes = c.into_passes.ensures ∙ ap (λ (s : Seat). s.passes) c.thread.view_is in
    ap (λ (p : PassesModel). p.house) passes ∙ (own.0 ∙ sym inv.given.house)

pub give-requires-clause-empty : goal.give-requires-clause-empty
give-requires-clause-empty g c =
    let inv = c.loop-place.invariant in
    let n = c.loop-place._place in
    let at = drop_at c.args.threads.items n c.in-Some.thread (into_iter_items c.next.new.self) (sym inv.threads ∙ c.in-Some.ensures.items) in
    let own = c.requires.own n c.in-Some.thread at.0 in
    let passes : c.into_passes.result ≡ c.in-Some.thread.passes = c.into_passes.ensures ∙ ap (λ (s : Seat). s.passes) c.thread.view_is in
    let within : n < length c.args.threads.items = omega (arith, c.len-count.ensures, c.args.threads.ok.0) in
    ap (λ (k : ℕ). get_or c.loop-place.passes.slots k None) (ap (λ (p : PassesModel). p.caller) passes ∙ own.1) ∙ (inv.given.left n (omega arith) ∙ c.requires.empty n within)

pub loop-place-init : goal.loop-place-init
loop-place-init g c = record {
  threads = c.into_iter-threads.ensures.rest;
  len = omega (arith, c.into_iter-threads.ensures.len, c.len-count.ensures);
  room = c.requires.room.1;
  given = subst (λ (ws : List WorkerView). GivenBack 0 c.args.threads.items c.args.passes.now c.args.passes.now ws) (sym c.requires.room.0) (given_none c.args.threads.items c.args.passes.now);
}

pub loop-place-preserved : goal.loop-place-preserved
loop-place-preserved g c =
    let inv = c.loop-place.invariant in
    let n = c.loop-place._place in
    let thread = c.in-Some.thread in
    let at = drop_at c.args.threads.items n thread (into_iter_items c.next.new.self) (sym inv.threads ∙ c.in-Some.ensures.items) in
    let own = c.requires.own n thread at.0 in
    let passes : c.into_passes.result ≡ thread.passes = c.into_passes.ensures ∙ ap (λ (s : Seat). s.passes) c.thread.view_is in
    let within : n < length c.args.passes.now.slots = omega (arith, c.len-count.ensures, c.args.threads.ok.0, c.requires.size) in
    let next : suc n ≡ n + 1 = omega arith in
    let mid = c.loop-place.passes in
    let given = ap₂ (λ (k : ℕ) (p : PassesModel). record { house = mid.house; slots = set mid.slots k (Some p) }) (ap (λ (p : PassesModel). p.caller) passes ∙ own.1) passes in
    let workers = ap (λ (s : Seat). c.loop-place.workers.items ++ s.worker ∷ []) c.thread.view_is in
    record {
      threads = sym at.1 ∙ ap (λ (k : ℕ). drop k c.args.threads.items) next;
      len = omega (arith, c.in-Some.ensures.len, inv.len);
      room = omega (arith, inv.room, c.push_reserved.ensures.capacity);
      given = given_more n c.args.threads.items c.args.passes.now mid c.give.new.self c.loop-place.workers.items c.push_reserved.new.self.items thread within inv.given at.0
          (c.give.ensures ∙ given) (c.push_reserved.ensures.items ∙ workers);
    }

pub returns : goal.returns
returns g c =
    let all : c.loop-place._place ≡ length c.args.threads.items = omega (arith, c.len-count.ensures, c.args.threads.ok.0) in
    subst (λ (k : ℕ). GivenBack k c.args.threads.items c.args.passes.now c.loop-place.passes c.loop-place.workers.items) all c.loop-place.invariant.given
