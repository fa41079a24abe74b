use Rattle.std.proofs.Common.{◌+◌, ◌++◌, length, ap, sym, ◌∙◌, append-nil, arith}
use Rattle.ch_history.specs.Held.{vacated_events}
use Rattle.ch_hooklog.proofs.Held.{none_due, all_stay}
use Rattle.ch_hooklog.proofs.hook_log.HookLog.release.Goals as goal

pub returns-then-not-is_due-clause-hooks : goal.returns-then-not-is_due-clause-hooks
returns-then-not-is_due-clause-hooks c =
    rw (← c.self.view_is) (sym (ap (λ ns. c.self.inside.hooks.items ++ vacated_events ns) (none_due c.args.now c.self.inside.oldest c.self.inside.held.items (sym c.is_due.ensures ∙ c.if-not-is_due.true) c.self.invariant.2) ∙ append-nil c.self.inside.hooks.items))

pub returns-then-not-is_due-clause-held : goal.returns-then-not-is_due-clause-held
returns-then-not-is_due-clause-held c =
    rw (← c.self.view_is) (sym (all_stay c.args.now c.self.inside.oldest c.self.inside.held.items (sym c.is_due.ensures ∙ c.if-not-is_due.true) c.self.invariant.2))

pub returns-then-not-is_due-clause-spare : goal.returns-then-not-is_due-clause-spare
returns-then-not-is_due-clause-spare c =
    let none = none_due c.args.now c.self.inside.oldest c.self.inside.held.items (sym c.is_due.ensures ∙ c.if-not-is_due.true) c.self.invariant.2 in
    rw (← c.self.view_is) (ap (λ ns. c.self.inside.spare + length ns) none ∙ omega arith)

pub invariant_of-self : goal.invariant_of-self
invariant_of-self c = (grind arith, grind arith, c.move_due-self-inside.ensures.oldest)
