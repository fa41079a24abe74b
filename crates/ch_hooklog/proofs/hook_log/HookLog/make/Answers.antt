use Rattle.std.proofs.Common.{◌∙◌, ◌++◌, ap, ap₂, append_assoc}
use Rattle.ch_history.specs.Held.{due, not_due, vacated_events}
use Rattle.ch_hooklog.specs.Noting.{held_by, logged_by}
use Rattle.ch_hooklog.proofs.Noting.{held-made, hooks-made}
use Rattle.ch_hooklog.proofs.hook_log.HookLog.make.Goals as goal

pub returns-clause-hooks : goal.returns-clause-hooks
returns-clause-hooks c =
    let now = c.args.now in
    let before = c.args.self.now.hooks in
    let notices = c.args.self.now.held in
    let events = c.args.hooks.items in
    c.note_all.ensures.hooks
    ∙ ap₂ (λ ks ns. ks ++ logged_by now events ns) c.release.ensures.hooks c.release.ensures.held
    ∙ append_assoc before (vacated_events (due now notices)) (logged_by now events (not_due now notices))
    ∙ ap (λ ks. before ++ ks) (hooks-made now events notices c.requires.call)

pub returns-clause-held : goal.returns-clause-held
returns-clause-held c =
    c.note_all.ensures.held ∙ ap (held_by c.args.now c.args.hooks.items) c.release.ensures.held ∙ held-made c.args.now c.args.hooks.items c.args.self.now.held c.requires.call
