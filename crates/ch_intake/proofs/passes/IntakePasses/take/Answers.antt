use Rattle.std.proofs.Common.{rules, ◌<◌, None, length, ap, ◌∙◌, sym}
use Rattle.ch_intake.proofs.Places.{default_any}
use Rattle.ch_intake.proofs.InPlace.{pass_at}
use Rattle.ch_intake.proofs.passes.IntakePasses.take.Goals as goal

pub returns-then-i-len-clause-own : goal.returns-then-i-len-clause-own
returns-then-i-len-clause-own g c =
    let within : c.args.i < length c.self.inside.passes.items = search rules in
    let there = c.take.ensures.value ∙ (c.index_mut.ensures.value ∙ default_any c.self.inside.passes.items c.args.i c.index_mut.result.now None within) in
    rw (sym (ap (λ v. v.intake) c.self.view_is)) (pass_at c.self.inside.intake.value c.self.inside.passes.items c.self.invariant c.args.i c.take.result there)
