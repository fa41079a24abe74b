use Rattle.std.proofs.Common.{sym, subst}
use Rattle.ch_pool.specs.AllPasses.{AreAllOf}
use Rattle.ch_drill.proofs.Seating.{all_get_up}
use Rattle.ch_drill.proofs.working.work_all.Goals as goal

pub give_passes-requires-clause-own : goal.give_passes-requires-clause-own
give_passes-requires-clause-own g c =
    let house = c.in_ok-taken.ensures.house in
    subst (λ h. AreAllOf h c.in_ok-taken-2.taken.items) (sym house)
    (all_get_up c.in_ok-house.passes.house c.in_ok-seats.seats.items c.work_in_threads.new.seats.items c.in_ok-taken.taken.items c.in_ok-taken-2.taken.items
    c.in_ok-taken.ensures.taken c.in_ok-seats.ensures.desks c.work_in_threads.ensures.count c.work_in_threads.ensures.same c.in_ok-taken-2.ensures.passes)
