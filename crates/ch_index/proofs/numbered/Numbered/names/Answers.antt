use Rattle.std.proofs.Common.{ℕ, List, ◌∙◌, ap, sym, length}
use Rattle.std.specs.Map.{values_of}
use Rattle.std.specs.Ordering.{nat_cmp}
use Rattle.std.proofs.lemmas.Map.Entries.{length-keys_of}
use Rattle.ch_index.specs.Nest.{inner}
use Rattle.ch_index.specs.Rows.{names_in, of_socket}
use Rattle.ch_index.proofs.Losing.{length-names}
use Rattle.ch_index.proofs.Reading.{names_are}
use Rattle.ch_index.proofs.numbered.Numbered.names.Goals as goal

pub returns-clause-names : goal.returns-clause-names
returns-clause-names g c =
    let es : List (ℕ × g.row.R.Denot) = c.self.inside.rows.entries in
    let s = c.args.socket in
    let ms = inner nat_cmp c.self.inside.by_socket.maps s in
    c.count.ensures.count
    ∙ sym (length-keys_of ms)
    ∙ ap length (names_are g.R.Row.name g.R.Row.socket ms es s c.count.ensures.ordered (c.self.invariant.by_socket s))
    ∙ ap (λ (fs : List (ℕ × g.row.R.Denot)). length (names_in g.R.Row.name g.R.Row.socket (values_of fs) s)) c.self.view_is

pub returns-clause-rows : goal.returns-clause-rows
returns-clause-rows g c =
    let es : List (ℕ × g.row.R.Denot) = c.self.inside.rows.entries in
    let s = c.args.socket in
    let ms = inner nat_cmp c.self.inside.by_socket.maps s in
    c.count.ensures.count
    ∙ sym (length-keys_of ms)
    ∙ ap length (names_are g.R.Row.name g.R.Row.socket ms es s c.count.ensures.ordered (c.self.invariant.by_socket s))
    ∙ length-names g.R.Row.name g.R.Row.socket (values_of es) s c.self.invariant.once
    ∙ ap (λ (fs : List (ℕ × g.row.R.Denot)). length (of_socket g.R.Row.name g.R.Row.socket (values_of fs) s)) c.self.view_is
