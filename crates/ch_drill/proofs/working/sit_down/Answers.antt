use Rattle.std.proofs.Common.{◌≡◌, length, All, ap, sym, subst, arith}
use Rattle.std.specs.Vec.Iter.{into_iter_items}
use Rattle.std.proofs.lemmas.List.Elements.{All-push, All-tail}
use Rattle.ch_house.specs.Houses.{PassesModel}
use Rattle.ch_drill.specs.Seats.{MayWork}
use Rattle.ch_drill.specs.declared.seat.Seat.{Seat}
use Rattle.ch_drill.proofs.Moved.{map_gains}
use Rattle.ch_drill.proofs.working.sit_down.Goals as goal

pub loop-passes-preserved : goal.loop-passes-preserved
loop-passes-preserved c =
    let steps = c.in-Some.ensures.steps in
    let long = ap length steps.0 in
    let seat = c.in_ok-new.field-0 in
    let rest = into_iter_items c.next.new.self in
    let own : PassesModel → Type 0 = λ p. p.house ≡ c.args.house.now in
    record {
      desks = map_gains (λ (s : Seat). s.desk) c.loop-passes.seats.items c.push.new.self.items seat (into_iter_items c.loop-passes.passes-iterator) rest c.args.taken.items c.in-Some.passes
          c.in_ok-push.ensures.items steps.0 c.in_ok-new.ensures.desk c.loop-passes.invariant.desks;
      may = subst (All MayWork) (sym c.in_ok-push.ensures.items) (All-push MayWork c.loop-passes.seats.items seat c.loop-passes.invariant.may c.in_ok-new.ensures.may);
      own = All-tail own c.in-Some.passes rest (subst (All own) steps.0 c.loop-passes.invariant.own);
      len = omega arith;
    }
