use Rattle.std.proofs.Common.{◌∙◌, append_assoc}
use Rattle.ch_replay.proofs.fault_lines.error_line.Goals as goal

pub returns : goal.returns
returns c = c.in_ok-line.ensures.ok ∙ simp append_assoc
