use Rattle.std.proofs.Common.{Option, IfSome, ap, ◌∙◌, sym, subst}
use Rattle.ch_turn.specs.PassModels.{LockModel, PassModel, IsPassOf}
use Rattle.ch_turn.proofs.PassLists.{set_in_place}
use Rattle.ch_turn.proofs.pass_list.PassList.give.Goals as goal

pub invariant_of-self : goal.invariant_of-self
invariant_of-self g c =
    let pass = c.pass.view_is in
    let own = c.requires.own ∙ ap (λ l. l.lock) (sym c.self.view_is) in
    let legal = c.pass.invariant.seen_legal in
    set_in_place g.T.Served.legal c.self.inside.lock.value c.self.inside.passes.items c.pass.inside.caller c.replace.new.self c.self.invariant
    (subst (λ (o : Option (PassModel g.row.T-Call.Denot g.row.T-Answer.Denot)). IfSome o (IsPassOf g.T.Served.legal c.self.inside.lock.value c.pass.inside.caller)) (sym c.replace.ensures.after)
    (ap (λ p. p.caller) (sym pass), own, subst (λ (z : LockModel × PassModel g.row.T-Call.Denot g.row.T-Answer.Denot). g.T.Served.legal z.0.place z.1.seen) (λ i. ((ap (λ p. p.lock) pass ∙ own) i, pass i)) legal))
