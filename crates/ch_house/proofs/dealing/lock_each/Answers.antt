use Rattle.std.proofs.Common.{◌≡◌, [], length, map, All, Some, ap, sym, ◌∙◌, subst, arith}
use Rattle.std.specs.Vec.Iter.{into_iter_items}
use Rattle.std.proofs.lemmas.List.Elements.{All-tail}
use Rattle.ch_turn.specs.PassModels.{LockModel, PassListModel, fresh_pass}
use Rattle.ch_house.specs.Columns.{IsFresh}
use Rattle.ch_house.proofs.Places.{each_more, map_moves, map_pushed}
use Rattle.ch_house.proofs.dealing.lock_each.Goals as goal

pub loop-value-preserved : goal.loop-value-preserved
loop-value-preserved g c =
    let steps = c.in-Some.ensures.steps in
    let long = ap length steps.0 in
    let made = c.in_ok-lock.ensures in
    let own : c.in_ok-lock.list.lock ≡ c.in_ok-lock.lock = made.own in
    record {
      places = map_moves (λ (k : LockModel). k.place) g.T.Served.place c.loop-value.locks.items c.push.new.self.items c.in_ok-lock.lock (into_iter_items c.loop-value.value-iterator) (into_iter_items c.next.new.self) c.in-Some.value
          (map g.T.Served.place c.args.values.items) c.in_ok-push.ensures.items steps.0 made.lock.1 c.loop-value.invariant.places;
      callers = each_more (λ k m. m.callers ≡ c.args.callers) c.loop-value.locks.items c.push.new.self.items c.in_ok-lock.lock c.in_ok-push.ensures.items c.loop-value.invariant.callers made.lock.0;
      own = map_pushed (λ (m : PassListModel g.row.T-Call.Denot g.row.T-Answer.Denot). m.lock) c.loop-value.lists.items c.push-in-loop-value.new.self.items c.in_ok-lock.list c.loop-value.locks.items c.push.new.self.items c.in_ok-lock.lock
          c.in_ok-push-2.ensures.items c.in_ok-push.ensures.items own c.loop-value.invariant.own;
      fresh = each_more (λ k m. IsFresh c.args.callers m) c.loop-value.lists.items c.push-in-loop-value.new.self.items c.in_ok-lock.list c.in_ok-push-2.ensures.items c.loop-value.invariant.fresh record {
        size = (made.count, ap (λ (l : LockModel). l.callers) own ∙ made.lock.0);
        each = λ i below. made.passes i below ∙ ap (λ (l : LockModel). Some (fresh_pass l i)) (sym own);
      };
      empty = All-tail (λ v. g.T.Served.stands v []) c.in-Some.value (into_iter_items c.next.new.self) (subst (All (λ v. g.T.Served.stands v [])) steps.0 c.loop-value.invariant.empty);
      len = omega arith;
    }
