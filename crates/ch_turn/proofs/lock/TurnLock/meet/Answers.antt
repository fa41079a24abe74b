use Rattle.std.proofs.Common.{rules, ap, sym, ◌∙◌}
use Rattle.ch_turn.proofs.SeatSteps.{tell_keeps, take_told_keeps, merge_keeps}
use Rattle.ch_turn.proofs.lock.TurnLock.meet.Goals as goal

pub split_seat-told-requires : goal.split_seat-told-requires
split_seat-told-requires g c = (search rules, search rules, tell_keeps g.T.Served.place g.T.Served.legal g.T.Served.stands _ _ _ _)

pub join_seat-requires : goal.join_seat-requires
join_seat-requires g c =
    let is = c.split_seat-told.ensures.4 in
    let rests = c.pass.invariant.rests in (
      search rules,
      search rules,
      search rules,
      search rules,
      take_told_keeps g.T.Served.place g.T.Served.legal g.T.Served.stands _ _ _ _ _ _ rests.idle (ap (λ m. m.0.stage) is) rests.merged (ap (λ m. m.0.told_from) is ∙ sym (ap (λ m. m.0.high) is)) (ap (λ m. m.0.low) is ∙ sym (ap (λ m. m.0.high) is)),
    )

pub load-requires : goal.load-requires
load-requires g c =
    let is = c.join_seat.ensures.2 in
    let rests = c.pass.invariant.rests in
    (search rules, search rules, merge_keeps g.T.Served.place g.T.Served.legal g.T.Served.stands _ _ g.met.T.Served.legal_prefix _ _ _ 0 (ap (λ m. m.0.stage) is ∙ rests.idle) (ap (λ m. m.0.spent) is ∙ rests.live))
