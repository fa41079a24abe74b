use Rattle.std.proofs.Common.{ℕ, ◌<◌, length, subst}
use Rattle.ch_house.specs.Rows.{RowPassesModel, place_of, seen}
use Rattle.ch_turn.specs.Callers.{CallersBelow}
use Rattle.ch_house.proofs.Calling.{legal_lists, known_lists}
use Rattle.ch_house.proofs.row_passes.RowPasses.caller.Goals as goal

pub returns-clause-legal : goal.returns-clause-legal
returns-clause-legal g c =
    subst (λ (v : RowPassesModel g.row.T-Call.Denot g.row.T-Answer.Denot). (k : ℕ) → k < length v.row.locks → g.T.Served.legal (place_of v.row k) (seen v k)) c.self.view_is
    (legal_lists g.T.Served.legal c.self.inside.row.value c.self.inside.caller c.self.inside.passes.items c.self.invariant)

pub returns-clause-known_callers : goal.returns-clause-known_callers
returns-clause-known_callers g c =
    subst (λ (v : RowPassesModel g.row.T-Call.Denot g.row.T-Answer.Denot). (k : ℕ) → k < length v.row.locks → CallersBelow v.row.callers (seen v k)) c.self.view_is
    (known_lists g.T.Served.legal c.self.inside.row.value c.self.inside.caller c.self.inside.passes.items c.self.invariant)
