use Rattle.std.proofs.Common.{rules, ◌≡◌, ℕ, ◌+◌, ◌≤◌, length, Some, None, slice_index_or, ap, sym, ◌∙◌, subst, arith, le_refl, get_or-set_other}
use Rattle.ch_turn.specs.SeatStates.{Gathered}
use Rattle.ch_turn.specs.PassModels.{PassListModel, AllInPlace}
use Rattle.ch_turn.proofs.PassLists.{caller_of, take_over_each}
use Rattle.ch_turn.proofs.closing.gather.Goals as goal

pub loop-i-preserved : goal.loop-i-preserved
loop-i-preserved g c =
    let i : ℕ = c.loop-i.i in
    let rest = ap (λ l. l.slots) c.take-in-loop-i.ensures.rest in
    let at : slice_index_or c.args.passes.slots i None ≡ Some c.in-Some-take.pass = sym (c.loop-i.invariant.3 i (le_refl i)) ∙ (sym c.take-in-loop-i.ensures.taken ∙ c.in-Some-take.is) in
    let facts : (length c.args.passes.slots ≡ c.args.passes.lock.callers) × AllInPlace g.T.Served.legal c.args.passes.lock c.args.passes.slots =
    subst (λ (l : PassListModel g.row.T-Call.Denot g.row.T-Answer.Denot). (length l.slots ≡ l.lock.callers) × AllInPlace g.T.Served.legal l.lock l.slots) c.passes.view_is c.passes.invariant in
    let who = caller_of g.T.Served.legal c.args.passes.lock c.args.passes.slots facts.0 facts.1 i c.in-Some-take.pass at in (
      c.take_over.ensures.table ∙ c.loop-i.invariant.0,
      subst (λ k. Gathered c.take_over.new.seat.me.0 (k + 1)) who.1 c.take_over.ensures.gathered,
      ap (λ l. l.lock) c.take-in-loop-i.ensures.rest ∙ c.loop-i.invariant.2,
      (λ j l. rw rest (get_or-set_other c.loop-i.passes.slots i j None None (λ e. omega arith) ∙ c.loop-i.invariant.3 j (omega arith))),
      take_over_each g.T.Served.legal c.args.passes.lock c.args.passes.slots facts.0 facts.1 i c.in-Some-take.pass c.loop-i.seat.me.0.seen c.take_over.new.seat.me.0.seen at c.loop-i.invariant.4 c.take_over.ensures.before c.take_over.ensures.pass,
    )

pub returns-clause-each : goal.returns-clause-each
returns-clause-each g c = λ i p at.
    let facts : (length c.args.passes.slots ≡ c.args.passes.lock.callers) × AllInPlace g.T.Served.legal c.args.passes.lock c.args.passes.slots =
    subst (λ (l : PassListModel g.row.T-Call.Denot g.row.T-Answer.Denot). (length l.slots ≡ l.lock.callers) × AllInPlace g.T.Served.legal l.lock l.slots) c.passes.view_is c.passes.invariant in
    let below = (caller_of g.T.Served.legal c.args.passes.lock c.args.passes.slots facts.0 facts.1 i p at).0 in
    let all : c.args.passes.lock.callers ≤ c.loop-i.i = search rules in
    c.loop-i.invariant.4 i p (omega arith) at

pub returns-clause-callers : goal.returns-clause-callers
returns-clause-callers g c = λ i p at.
    let facts : (length c.args.passes.slots ≡ c.args.passes.lock.callers) × AllInPlace g.T.Served.legal c.args.passes.lock c.args.passes.slots =
    subst (λ (l : PassListModel g.row.T-Call.Denot g.row.T-Answer.Denot). (length l.slots ≡ l.lock.callers) × AllInPlace g.T.Served.legal l.lock l.slots) c.passes.view_is c.passes.invariant in
    let who = caller_of g.T.Served.legal c.args.passes.lock c.args.passes.slots facts.0 facts.1 i p at in
    let below = who.0 in
    let is = who.1 in
    let callers = c.requires.own.1 in omega arith

pub returns-clause-in_place : goal.returns-clause-in_place
returns-clause-in_place g c =
    subst (λ (l : PassListModel g.row.T-Call.Denot g.row.T-Answer.Denot). AllInPlace g.T.Served.legal l.lock l.slots) c.passes.view_is c.passes.invariant.1
