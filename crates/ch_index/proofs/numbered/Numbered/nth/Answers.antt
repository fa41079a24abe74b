use Rattle.std.proofs.Common.{ℕ, List, ◌∙◌, ap, sym, slice_get}
use Rattle.std.specs.Option.{option_copied}
use Rattle.std.specs.Map.{keys_of, values_of}
use Rattle.ch_index.specs.Rows.{named}
use Rattle.ch_index.proofs.Marking.{keys_marked}
use Rattle.ch_index.proofs.Reading.{row_under, nth_named}
use Rattle.ch_index.proofs.numbered.Numbered.nth.Goals as goal

pub returns-in-None : goal.returns-in-None
returns-in-None g c =
    let es : List (ℕ × g.row.R.Denot) = c.self.inside.rows.entries in
    let d = c.args.name.now in
    ap (row_under g.R.Row.name es) (sym (ap option_copied c.in-None.is) ∙ c.nth.ensures.at ∙ ap (λ ks. slice_get ks c.args.at) (ap keys_of (c.self.invariant.by_name d) ∙ keys_marked g.R.Row.name g.R.Row.mark es d))
    ∙ nth_named g.R.Row.name es d c.args.at c.self.invariant.rising
    ∙ ap (λ (fs : List (ℕ × g.row.R.Denot)). slice_get (named g.R.Row.name (values_of fs) d) c.args.at) c.self.view_is

pub returns-in-Some : goal.returns-in-Some
returns-in-Some g c =
    let es : List (ℕ × g.row.R.Denot) = c.self.inside.rows.entries in
    let d = c.args.name.now in
    c.get.ensures.value
    ∙ ap (row_under g.R.Row.name es) (sym (ap option_copied c.in-Some.is) ∙ c.nth.ensures.at ∙ ap (λ ks. slice_get ks c.args.at) (ap keys_of (c.self.invariant.by_name d) ∙ keys_marked g.R.Row.name g.R.Row.mark es d))
    ∙ nth_named g.R.Row.name es d c.args.at c.self.invariant.rising
    ∙ ap (λ (fs : List (ℕ × g.row.R.Denot)). slice_get (named g.R.Row.name (values_of fs) d) c.args.at) c.self.view_is
