use Rattle.std.proofs.Common.{◌∙◌}
use Rattle.ch_shard.proofs.publishing.keep.Goals as goal

pub returns-clause-ok : goal.returns-clause-ok
returns-clause-ok c = λ d at on. c.sweep.ensures.latest d at on ∙ c.in_ok-put_latest.ensures.ok d at
