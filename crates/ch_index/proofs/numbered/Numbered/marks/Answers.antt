use Rattle.std.proofs.Common.{ℕ, List, map, ◌∙◌, ap}
use Rattle.std.specs.Map.{values_of}
use Rattle.ch_index.specs.Rows.{named}
use Rattle.ch_index.proofs.Marking.{values_marked}
use Rattle.ch_index.proofs.numbered.Numbered.marks.Goals as goal

pub returns : goal.returns
returns g c =
    let es : List (ℕ × g.row.R.Denot) = c.self.inside.rows.entries in
    let d = c.args.name.now in
    let mark = g.R.Row.mark in
    c.values.ensures
    ∙ ap values_of (c.self.invariant.by_name d)
    ∙ values_marked g.R.Row.name mark es d
    ∙ ap (λ (fs : List (ℕ × g.row.R.Denot)). map mark (named g.R.Row.name (values_of fs) d)) c.self.view_is
