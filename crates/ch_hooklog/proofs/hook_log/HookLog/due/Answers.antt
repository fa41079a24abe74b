use Rattle.std.proofs.Common.{length, ap, sym, ◌∙◌}
use Rattle.ch_history.specs.Held.{due}
use Rattle.ch_hooklog.specs.HookLog.{Logged}
use Rattle.ch_hooklog.proofs.Held.{none_due}
use Rattle.ch_hooklog.proofs.hook_log.HookLog.due.Goals as goal

pub returns-then-not-is_due-clause-due : goal.returns-then-not-is_due-clause-due
returns-then-not-is_due-clause-due c =
    let held = c.self.inside.held.items in
    sym (ap (λ (l : Logged). length (due c.args.now l.held)) (sym c.self.view_is)
    ∙ ap length (none_due c.args.now c.self.inside.oldest held (sym c.is_due.ensures ∙ c.if-not-is_due.true) c.self.invariant.2))
