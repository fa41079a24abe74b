use Rattle.std.proofs.Common.{rules, ◌≡◌, [], ◌∷◌, ap, sym, ◌∙◌, subst}
use Rattle.atomic_table.specs.Table.{rest}
use Rattle.ch_turn.specs.Tickets.{HasTurn}
use Rattle.ch_turn.specs.declared.table.View.{View}
use Rattle.ch_turn.specs.declared.table.Slot.TheVariants.{Value}
use Rattle.ch_turn.proofs.CallSteps.{advance_keeps}
use Rattle.ch_turn.proofs.call.release.Goals as goal

pub fetch_add-requires : goal.fetch_add-requires
fetch_add-requires g c =
    let slot = c.requires.slot in
    let now = c.exchange.ensures.3 in
    let hand : c.exchange.new.seat.me.1 ≡ (0, Value c.args.value) ∷ [] = ap (λ m. m.1) now ∙ ap (λ slots. (0, Value c.args.value) ∷ rest slots) slot.3 in
    let same : c.args.seat.now.me.0 ≡ c.exchange.new.seat.me.0 = sym (ap (λ m. m.0) now) in (
      search rules,
      search rules,
      advance_keeps g.T.Served.place g.T.Served.legal g.T.Served.stands _ _ _ _ _ slot.0 c.args.value (subst (λ (v : View g.row.T-Call.Denot g.row.T-Answer.Denot). HasTurn slot.0 v.stage) same slot.1) hand
          (subst (λ (v : View g.row.T-Call.Denot g.row.T-Answer.Denot). g.T.Served.stands c.args.value v.seen) same c.requires.value.0) (c.requires.value.1 ∙ ap (λ v. v.place) same),
    )
