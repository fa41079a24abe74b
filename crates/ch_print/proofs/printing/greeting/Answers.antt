use Rattle.std.proofs.Common.{◌∙◌, append_assoc}
use Rattle.ch_print.proofs.printing.greeting.Goals as goal

pub returns : goal.returns
returns c = c.in_ok-text.ensures.ok ∙ simp append_assoc
