use Rattle.std.proofs.Common.{◌∙◌, append_assoc}
use Rattle.ch_batch.proofs.bodies.body_text.Goals as goal

pub returns : goal.returns
returns c = c.in_ok-text.ensures.ok ∙ simp (c.as_str-events.ensures.value, c.in_ok-events.ensures, append_assoc)
