use Rattle.std.proofs.Common.{ℕ, List, is_some, ◌∙◌, ap, sym, subst}
use Rattle.std.specs.List.Sorted.{IsStrictlySortedBy}
use Rattle.std.specs.Map.{keys_of, values_of}
use Rattle.std.specs.Ordering.{nat_cmp}
use Rattle.ch_index.specs.Rows.{EachOnce}
use Rattle.ch_index.proofs.Once.{has_number}
use Rattle.ch_index.proofs.Losing.{number_there, one_left, none_left}
use Rattle.ch_index.proofs.numbered.Numbered.leave.Goals as goal

pub end-requires : goal.end-requires
end-requires g c = number_there g.R.Row.name g.R.Row.socket c.args.self.now c.in-Some.number c.args.socket c.args.name.now (sym c.number.ensures ∙ c.in-Some.is)

pub returns-in-None-clause-answer : goal.returns-in-None-clause-answer
returns-in-None-clause-answer g c =
    ap is_some (sym c.in-None.is ∙ c.number.ensures) ∙ has_number g.R.Row.name g.R.Row.socket c.args.self.now c.args.socket c.args.name.now

pub returns-in-None-clause-rows : goal.returns-in-None-clause-rows
returns-in-None-clause-rows g c = none_left g.R.Row.name g.R.Row.socket c.args.self.now c.args.socket c.args.name.now (sym c.number.ensures ∙ c.in-None.is)

pub returns-in-Some-clause-answer : goal.returns-in-Some-clause-answer
returns-in-Some-clause-answer g c =
    ap is_some (sym c.in-Some.is ∙ c.number.ensures) ∙ has_number g.R.Row.name g.R.Row.socket c.args.self.now c.args.socket c.args.name.now

pub returns-in-Some-clause-rows : goal.returns-in-Some-clause-rows
returns-in-Some-clause-rows g c =
    let P : List (ℕ × g.row.R.Denot) → Type 0 = λ fs. IsStrictlySortedBy nat_cmp (keys_of fs) in
    let Q : List (ℕ × g.row.R.Denot) → Type 0 = λ fs. EachOnce g.R.Row.name g.R.Row.socket (values_of fs) in
    ap values_of c.end.ensures
    ∙ one_left g.R.Row.name g.R.Row.socket c.args.self.now c.in-Some.number c.args.socket c.args.name.now (subst P c.self.view_is c.self.invariant.rising) (subst Q c.self.view_is c.self.invariant.once) (sym c.number.ensures ∙ c.in-Some.is)
