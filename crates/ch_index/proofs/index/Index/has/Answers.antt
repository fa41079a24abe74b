use Rattle.std.proofs.Common.{◌∙◌, ap, is_some}
use Rattle.ch_index.specs.Rows.{has_row}
use Rattle.ch_index.proofs.Once.{has_number}
use Rattle.ch_index.proofs.index.Index.has.Goals as goal

pub returns : goal.returns
returns g c =
    c.is_some.ensures
    ∙ ap is_some c.number.ensures
    ∙ has_number g.R.Row.name g.R.Row.socket c.self.inside.numbered c.args.socket c.args.name.now
    ∙ ap (λ xs. has_row g.R.Row.name g.R.Row.socket xs c.args.socket c.args.name.now) c.self.view_is
