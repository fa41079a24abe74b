use Rattle.std.proofs.Common.{rules, ◌≡◌, List, [], ◌∷◌, sym, subst}
use Rattle.atomic_table.specs.Table.{opening}
use Rattle.ch_turn.specs.LockRule.{Kept}
use Rattle.ch_turn.specs.Views.{first_view}
use Rattle.ch_turn.specs.declared.table.Slot.{Slot}
use Rattle.ch_turn.specs.declared.table.Slot.TheVariants.{Value}
use Rattle.ch_turn.proofs.TableEnds.{opening_keeps}
use Rattle.ch_turn.proofs.opening.lay_table.Goals as goal

pub new-requires : goal.new-requires
new-requires g c =
    let items : c.push.new.self.items ≡ Value c.args.value ∷ [] = search rules in
    subst (λ (z : g.row.T.Denot × List (Slot g.row.T.Denot g.row.T-Call.Denot g.row.T-Answer.Denot)). Kept g.T.Served.place g.T.Served.legal g.T.Served.stands (g.T.Served.place z.0) c.args.callers (opening (0 ∷ 0 ∷ 0 ∷ []) z.1 (first_view (g.T.Served.place z.0) c.args.callers)))
    (λ i. (sym c.of.ensures i, sym items i))
    (opening_keeps g.T.Served.place g.T.Served.legal g.T.Served.stands c.args.callers c.args.value c.requires.callers (g.met.T.Served.stands_legal c.args.value [] c.requires.empty) c.requires.empty)
