use Rattle.std.proofs.Common.{ℕ, List, ◌==◌, ◌∙◌, ap, sym, find}
use Rattle.std.specs.Option.{option_copied}
use Rattle.std.specs.Map.{values_of}
use Rattle.ch_index.specs.Rows.{named}
use Rattle.ch_index.proofs.Reading.{row_under, found_row}
use Rattle.ch_index.proofs.numbered.Numbered.find.Goals as goal

pub returns-in-None : goal.returns-in-None
returns-in-None g c =
    let es : List (ℕ × g.row.R.Denot) = c.self.inside.rows.entries in
    let d = c.args.name.now in
    let s = c.args.socket in
    ap (row_under g.R.Row.name es) (sym (ap option_copied c.in-None.is) ∙ c.get.ensures ∙ c.self.invariant.by_socket s d)
    ∙ found_row g.R.Row.name g.R.Row.socket es s d c.self.invariant.rising
    ∙ ap (λ (fs : List (ℕ × g.row.R.Denot)). find (λ r. g.R.Row.socket r == s) (named g.R.Row.name (values_of fs) d)) c.self.view_is

pub returns-in-Some : goal.returns-in-Some
returns-in-Some g c =
    let es : List (ℕ × g.row.R.Denot) = c.self.inside.rows.entries in
    let d = c.args.name.now in
    let s = c.args.socket in
    c.get-in-Some.ensures.value
    ∙ ap (row_under g.R.Row.name es) (sym (ap option_copied c.in-Some.is) ∙ c.get.ensures ∙ c.self.invariant.by_socket s d)
    ∙ found_row g.R.Row.name g.R.Row.socket es s d c.self.invariant.rising
    ∙ ap (λ (fs : List (ℕ × g.row.R.Denot)). find (λ r. g.R.Row.socket r == s) (named g.R.Row.name (values_of fs) d)) c.self.view_is
