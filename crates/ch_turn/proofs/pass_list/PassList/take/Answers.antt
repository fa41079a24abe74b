use Rattle.std.proofs.Common.{rules, ◌<◌, Option, None, IfSome, length, ap, ◌∙◌, sym, subst}
use Rattle.ch_turn.specs.PassModels.{PassModel, IsPassOf}
use Rattle.ch_turn.proofs.PassLists.{pass_at, default_any, set_in_place}
use Rattle.ch_turn.proofs.pass_list.PassList.take.Goals as goal

pub returns-then-i-len-clause-own : goal.returns-then-i-len-clause-own
returns-then-i-len-clause-own g c =
    let within : c.args.i < length c.self.inside.passes.items = search rules in
    let there = c.take.ensures.value ∙ (c.index_mut.ensures.value ∙ default_any c.self.inside.passes.items c.args.i c.index_mut.result.now None within) in
    rw (sym (ap (λ v. v.lock) c.self.view_is)) (pass_at g.T.Served.legal c.self.inside.lock.value c.self.inside.passes.items c.self.invariant.1 c.args.i c.take.result there)

pub invariant_of-self : goal.invariant_of-self
invariant_of-self g c = set_in_place g.T.Served.legal c.self.inside.lock.value c.self.inside.passes.items c.args.i c.take.new.self c.self.invariant
    (subst (λ (o : Option (PassModel g.row.T-Call.Denot g.row.T-Answer.Denot)). IfSome o (IsPassOf g.T.Served.legal c.self.inside.lock.value c.args.i)) (sym c.take.ensures.after) tt)
