use Rattle.std.proofs.Common.{◌∙◌, ap}
use Rattle.ch_index.specs.Rows.{has_row}
use Rattle.ch_index.specs.Numbered.{number_of}
use Rattle.ch_index.proofs.Once.{has_number}
use Rattle.ch_index.proofs.Losing.{none_from}
use Rattle.ch_index.proofs.index.Index.add.Goals as goal

pub add-requires-clause-absent : goal.add-requires-clause-absent
add-requires-clause-absent g c =
    let s = g.R.Row.socket c.args.row in
    let d = g.R.Row.name c.args.row in
    none_from (number_of g.R.Row.name g.R.Row.socket c.next_number.new.numbered s d)
    (has_number g.R.Row.name g.R.Row.socket c.next_number.new.numbered s d
    ∙ ap (λ xs. has_row g.R.Row.name g.R.Row.socket xs s d) (c.next_number.ensures.rows ∙ c.self.view_is)
    ∙ c.requires)
