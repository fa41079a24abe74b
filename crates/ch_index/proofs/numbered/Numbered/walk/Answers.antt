use Rattle.std.proofs.Common.{ℕ, List, ◌∙◌, ap, sym, subst}
use Rattle.std.specs.Map.{keys_of, values_of}
use Rattle.ch_index.specs.Rows.{named}
use Rattle.ch_index.specs.Numbered.{rows_under, AreThere}
use Rattle.ch_index.proofs.Marking.{keys_marked}
use Rattle.ch_index.proofs.Walking.{walked, all_there}
use Rattle.ch_index.proofs.numbered.Numbered.walk.Goals as goal

pub invariant_of-result : goal.invariant_of-result
invariant_of-result g c =
    let es : List (ℕ × g.row.R.Denot) = c.self.inside.rows.entries in
    let d = c.args.name.now in
    subst (AreThere es) (sym (c.keys.ensures ∙ ap keys_of (c.self.invariant.by_name d) ∙ keys_marked g.R.Row.name g.R.Row.mark es d)) (all_there g.R.Row.name es d)

pub returns : goal.returns
returns g c =
    let es : List (ℕ × g.row.R.Denot) = c.self.inside.rows.entries in
    let d = c.args.name.now in
    ap (rows_under es) (c.keys.ensures ∙ ap keys_of (c.self.invariant.by_name d) ∙ keys_marked g.R.Row.name g.R.Row.mark es d)
    ∙ walked g.R.Row.name es d c.self.invariant.rising
    ∙ ap (λ (fs : List (ℕ × g.row.R.Denot)). named g.R.Row.name (values_of fs) d) c.self.view_is
