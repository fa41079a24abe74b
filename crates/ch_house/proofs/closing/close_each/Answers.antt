use Rattle.std.proofs.Common.{◌≡◌, suc, length, length-append, drop, Some, ap, sym, ◌∙◌, subst, arith}
use Rattle.std.specs.Prelude.{slice_get}
use Rattle.std.specs.Iterator.Adapters.{zip_first, zip_second}
use Rattle.std.specs.Vec.Iter.{into_iter_items}
use Rattle.std.proofs.lemmas.Option.{same_Some}
use Rattle.ch_turn.specs.declared.closing.Closed.{Closed}
use Rattle.ch_turn.specs.PassModels.{LockModel, PassListModel, HasHistory}
use Rattle.ch_house.proofs.Places.{each_more, drop_at, get_map}
use Rattle.ch_house.proofs.closing.close_each.Goals as goal

pub close-requires-clause-all : goal.close-requires-clause-all
close-requires-clause-all g c =
    let steps = c.in-Some.ensures.steps in
    let at = drop_at c.args.lists.items (length c.loop-lock.room.items) c.in-Some.passes (into_iter_items (zip_second c.next.new.self)) (sym c.loop-lock.invariant.lists_left ∙ steps.1.0) in
    c.requires.whole (length c.loop-lock.room.items) c.in-Some.passes at.0

pub loop-lock-preserved : goal.loop-lock-preserved
loop-lock-preserved g c =
    let n = length c.loop-lock.room.items in
    let steps = c.in-Some.ensures.steps in
    let lists = drop_at c.args.lists.items n c.in-Some.passes (into_iter_items (zip_second c.next.new.self)) (sym c.loop-lock.invariant.lists_left ∙ steps.1.0) in
    let locks = drop_at c.args.locks.items n c.in-Some.lock (into_iter_items (zip_first c.next.new.self)) (sym c.loop-lock.invariant.locks_left ∙ steps.0.0) in
    let more : length c.push_reserved.new.self.items ≡ suc n = omega (arith, ap length c.push_reserved.ensures.items, length-append {A = Closed g.row.T.Denot}) in
    let lock_is : c.in-Some.passes.lock ≡ c.in-Some.lock = same_Some c.in-Some.passes.lock c.in-Some.lock
    (sym (get_map (λ (m : PassListModel g.row.T-Call.Denot g.row.T-Answer.Denot). m.lock) c.args.lists.items n c.in-Some.passes lists.0) ∙ (ap (λ ls. slice_get ls n) c.requires.own ∙ locks.0)) in
    let locks_len = c.loop-lock.invariant.locks_len in
    let lists_len = c.loop-lock.invariant.lists_len in
    let first_len = steps.0.1 in
    let second_len = steps.1.1 in
    let room = c.loop-lock.invariant.room in
    let capacity = c.push_reserved.ensures.capacity in
    record {
      can = (tt, tt);
      ends = tt;
      locks_left = sym locks.1 ∙ ap (λ k. drop k c.args.locks.items) (sym more);
      lists_left = sym lists.1 ∙ ap (λ k. drop k c.args.lists.items) (sym more);
      locks_len = omega arith;
      lists_len = omega arith;
      room = omega arith;
      histories = λ k m r list closed. each_more
          (λ j z. (w : PassListModel g.row.T-Call.Denot g.row.T-Answer.Denot) → slice_get c.args.lists.items j ≡ Some w → HasHistory g.T.Served.legal g.T.Served.stands w.lock w.slots z.value z.entries)
          c.loop-lock.room.items c.push_reserved.new.self.items c.close.result c.push_reserved.ensures.items
          (λ j z at w list_j. c.loop-lock.invariant.histories j w z list_j at)
          (λ w list_j. subst (λ (v : PassListModel g.row.T-Call.Denot g.row.T-Answer.Denot). HasHistory g.T.Served.legal g.T.Served.stands v.lock v.slots c.close.result.value c.close.result.entries)
          (same_Some c.in-Some.passes w (sym lists.0 ∙ list_j))
          (subst (λ (l : LockModel). HasHistory g.T.Served.legal g.T.Served.stands l c.in-Some.passes.slots c.close.result.value c.close.result.entries) (sym lock_is) c.close.ensures.history))
          k r closed m list;
      places = λ k m r list closed. each_more
          (λ j z. (w : PassListModel g.row.T-Call.Denot g.row.T-Answer.Denot) → slice_get c.args.lists.items j ≡ Some w → g.T.Served.place z.value ≡ w.lock.place)
          c.loop-lock.room.items c.push_reserved.new.self.items c.close.result c.push_reserved.ensures.items
          (λ j z at w list_j. c.loop-lock.invariant.places j w z list_j at)
          (λ w list_j. c.close.ensures.place ∙ (ap (λ (l : LockModel). l.place) (sym lock_is) ∙ ap (λ (v : PassListModel g.row.T-Call.Denot g.row.T-Answer.Denot). v.lock.place) (same_Some c.in-Some.passes w (sym lists.0 ∙ list_j))))
          k r closed m list;
    }
