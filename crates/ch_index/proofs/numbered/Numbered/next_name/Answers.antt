use Rattle.std.proofs.Common.{ℕ, List, ◌∙◌, ap, find}
use Rattle.std.specs.Option.{option_copied}
use Rattle.std.specs.Map.{keys_of, values_of}
use Rattle.std.specs.Ordering.{nat_cmp}
use Rattle.std.specs.Cmp.Lexicographic.{slice_cmp}
use Rattle.ch_index.specs.Nest.{is_past}
use Rattle.ch_index.specs.Rows.{names}
use Rattle.ch_index.proofs.Marking.{keys_marked}
use Rattle.ch_index.proofs.Reading.{names_used}
use Rattle.ch_index.proofs.numbered.Numbered.next_name.Goals as goal

pub returns : goal.returns
returns g c =
    let es : List (ℕ × g.row.R.Denot) = c.self.inside.rows.entries in
    c.next_key.ensures.next
    ∙ ap (find (is_past (slice_cmp nat_cmp) (option_copied c.args.after))) (names_used g.R.Row.name c.self.inside.by_name.maps es c.next_key.ensures.ordered (λ d. ap keys_of (c.self.invariant.by_name d) ∙ keys_marked g.R.Row.name g.R.Row.mark es d))
    ∙ ap (λ (fs : List (ℕ × g.row.R.Denot)). find (is_past (slice_cmp nat_cmp) (option_copied c.args.after)) (names g.R.Row.name (values_of fs))) c.self.view_is
