use Rattle.std.proofs.Common.{◌∙◌, ap, rules}
use Rattle.ch_batch.specs.Steps.{left_by}
use Rattle.ch_batch.specs.declared.step.Step.{Step}
use Rattle.ch_batch.proofs.Retries.{open_after}
use Rattle.ch_batch.proofs.batcher.Batcher.step.Goals as goal

pub invariant_of-self : goal.invariant_of-self
invariant_of-self g c = (
  open_after c.post-posted.result c.in-Some.lowest.now c.args.now c.self.inside.waiting.items c.left_by.new.waiting.items (search rules) c.in-Some.ensures.lookup
      (c.left_by.ensures ∙ ap (λ (answer : Step). left_by answer c.self.inside.waiting.items) c.step_answer-answer.ensures) c.self.invariant.0,
  c.self.invariant.1,
)
