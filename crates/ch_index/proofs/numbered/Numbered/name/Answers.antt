use Rattle.std.proofs.Common.{ℕ, List, ◌∙◌, ap, slice_get}
use Rattle.std.specs.Map.{values_of}
use Rattle.std.specs.Ordering.{nat_cmp}
use Rattle.ch_index.specs.Nest.{inner}
use Rattle.ch_index.specs.Rows.{names_in}
use Rattle.ch_index.proofs.Reading.{names_are}
use Rattle.ch_index.proofs.numbered.Numbered.name.Goals as goal

pub returns : goal.returns
returns g c =
    let es : List (ℕ × g.row.R.Denot) = c.self.inside.rows.entries in
    let s = c.args.socket in
    let ms = inner nat_cmp c.self.inside.by_socket.maps s in
    c.nth.ensures.at
    ∙ ap (λ ks. slice_get ks c.args.at) (names_are g.R.Row.name g.R.Row.socket ms es s c.nth.ensures.ordered (c.self.invariant.by_socket s))
    ∙ ap (λ (fs : List (ℕ × g.row.R.Denot)). slice_get (names_in g.R.Row.name g.R.Row.socket (values_of fs) s) c.args.at) c.self.view_is
