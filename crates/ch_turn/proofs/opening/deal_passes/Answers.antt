use Rattle.std.proofs.Common.{rules, ◌≡◌, ◌<◌, Some, ap, sym, ◌∙◌, arith}
use Rattle.ch_turn.specs.Views.{after_dealing}
use Rattle.ch_turn.specs.PassModels.{PassModel, lock_model, fresh_pass}
use Rattle.ch_turn.proofs.SeatSteps.{deal_keeps}
use Rattle.ch_turn.proofs.PassLists.{push_each}
use Rattle.ch_turn.proofs.opening.deal_passes.Goals as goal

pub split_seat-own-requires : goal.split_seat-own-requires
split_seat-own-requires g c =
    let is = c.loop-caller.invariant.1 in
    let low : c.loop-caller.seat.me.0.low ≡ c.loop-caller.caller = ap (λ m. m.0.low) is in
    let high : c.loop-caller.seat.me.0.high ≡ c.args.callers = ap (λ m. m.0.high) is in
    let some_left : c.loop-caller.seat.me.0.low < c.loop-caller.seat.me.0.high = omega arith in
    (search rules, search rules, deal_keeps g.T.Served.place g.T.Served.legal g.T.Served.stands _ _ _ _ (ap (λ m. m.0.stage) is) (ap (λ m. m.0.told_from) is ∙ sym (ap (λ m. m.0.high) is)) some_left (ap (λ m. m.0.calls) is))

pub loop-caller-preserved : goal.loop-caller-preserved
loop-caller-preserved g c =
    let is = c.loop-caller.invariant.1 in
    let did = c.split_seat-own.ensures in (
      search rules,
      did.2 ∙ ap (λ m. (after_dealing m.0, m.1)) is,
      search rules,
      search rules,
      push_each (λ j. let p : PassModel g.row.T-Call.Denot g.row.T-Answer.Denot = fresh_pass (lock_model c.args.seat.table_id c.args.callers c.args.seat.me.0.place) j in Some p) c.loop-caller.passes.items c.push_reserved.new.self.items c.loop-caller.caller _ c.push_reserved.ensures.items (search rules) c.loop-caller.invariant.4
          (λ k. let p : PassModel g.row.T-Call.Denot g.row.T-Answer.Denot = record { lock = lock_model ((did.3 ∙ c.loop-caller.invariant.0) k) ((ap (λ m. m.0.callers) did.4 ∙ ap (λ m. m.0.callers) is) k) ((ap (λ m. m.0.place) did.4 ∙ ap (λ m. m.0.place) is) k); caller = c.loop-caller.caller; seen = (ap (λ m. m.0.seen) did.4 ∙ ap (λ m. m.0.seen) is) k; calls = 0 } in Some p),
    )
