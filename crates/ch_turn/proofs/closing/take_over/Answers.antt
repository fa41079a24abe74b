use Rattle.std.proofs.Common.{rules, ◌≡◌, ◌++◌, ap, sym, ◌∙◌, arith}
use Rattle.ch_turn.proofs.SeatSteps.{take_pass_keeps, merge_keeps}
use Rattle.ch_turn.proofs.closing.take_over.Goals as goal

pub join_seat-requires : goal.join_seat-requires
join_seat-requires g c =
    let mine = c.requires.gathered in
    let theirs = c.pass.invariant in
    let next : c.pass.inside.seat.me.0.low ≡ c.args.seat.now.me.0.high = theirs.caller_is ∙ (ap (λ p. p.caller) c.pass.view_is ∙ sym mine.up_to) in (
      search rules,
      search rules,
      search rules,
      search rules,
      take_pass_keeps g.T.Served.place g.T.Served.legal g.T.Served.stands _ _ _ _ _ _ mine.idle theirs.rests.idle mine.merged theirs.rests.merged theirs.rests.one_caller next,
    )

pub load-requires : goal.load-requires
load-requires g c =
    let is = c.join_seat.ensures.2 in
    let mine = c.requires.gathered in
    (search rules, search rules, merge_keeps g.T.Served.place g.T.Served.legal g.T.Served.stands _ _ g.met.T.Served.legal_prefix _ _ _ 0 (ap (λ m. m.0.stage) is ∙ mine.idle) (ap (λ m. m.0.spent) is ∙ mine.live))

pub returns-clause-before : goal.returns-clause-before
returns-clause-before g c =
    let is = c.join_seat.ensures.2 in
    let mine = c.requires.gathered in
    let low : c.join_seat.new.seat.me.0.low ≡ 0 = ap (λ m. m.0.low) is ∙ mine.from_first in
    let told_from : c.join_seat.new.seat.me.0.told_from ≡ c.args.pass.caller = ap (λ m. m.0.told_from) is ∙ (mine.merged ∙ mine.up_to) in
    let h = c.load.ensures.2.after_seen in
    (h.0, ap (λ m. m.0.seen ++ h.0) (sym is) ∙ h.1, (λ i l. h.2 i (omega arith) (omega arith)))
