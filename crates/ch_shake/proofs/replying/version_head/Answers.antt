use Rattle.std.proofs.Common.{append_assoc}
use Rattle.ch_shake.proofs.replying.version_head.Goals as goal

pub returns : goal.returns
returns c = simp (c.in_ok-head.ensures.ok, append_assoc)
