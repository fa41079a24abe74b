use Rattle.std.proofs.Common.{All, bytes_eq, not, subst, sym, arith}
use Rattle.std.proofs.lemmas.List.Elements.{All-filter}
use Rattle.ch_history.specs.declared.rows.HeldNotice.{HeldNotice}
use Rattle.ch_hooklog.proofs.Held.{IsSince}
use Rattle.ch_hooklog.proofs.hook_log.HookLog.cancel.Goals as goal

pub invariant_of-self : goal.invariant_of-self
invariant_of-self c =
    let since = IsSince c.self.inside.oldest in
    let others = λ (n : HeldNotice). not (bytes_eq n.channel c.args.channel.now) in
    (c.self.invariant.0, grind arith, subst (All since) (sym c.forget.ensures.items) (All-filter others since c.self.inside.held.items c.self.invariant.2))
