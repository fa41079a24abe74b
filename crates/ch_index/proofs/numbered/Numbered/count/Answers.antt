use Rattle.std.proofs.Common.{ℕ, List, ◌∙◌, ap, length}
use Rattle.std.specs.Map.{keys_of, values_of}
use Rattle.std.specs.Ordering.{nat_cmp}
use Rattle.std.specs.Cmp.Lexicographic.{slice_cmp}
use Rattle.ch_index.specs.Nest.{inner}
use Rattle.ch_index.specs.Rows.{named}
use Rattle.ch_index.proofs.Marking.{keys_marked}
use Rattle.ch_index.proofs.Reading.{count_named}
use Rattle.ch_index.proofs.numbered.Numbered.count.Goals as goal

pub returns : goal.returns
returns g c =
    let es : List (ℕ × g.row.R.Denot) = c.self.inside.rows.entries in
    let d = c.args.name.now in
    c.count.ensures.count
    ∙ count_named g.R.Row.name (inner (slice_cmp nat_cmp) c.self.inside.by_name.maps d) es d (ap keys_of (c.self.invariant.by_name d) ∙ keys_marked g.R.Row.name g.R.Row.mark es d)
    ∙ ap (λ (fs : List (ℕ × g.row.R.Denot)). length (named g.R.Row.name (values_of fs) d)) c.self.view_is
