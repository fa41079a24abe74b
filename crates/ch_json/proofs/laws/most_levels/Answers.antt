use Rattle.ch_base.specs.declared.limits.TheConstants.{MAX_DEPTH}
use Rattle.ch_json.proofs.Alone as alone
use Rattle.ch_json.proofs.laws.most_levels.Goals as goal

pub returns : goal.returns
returns c = λ text v h. alone.spelled_levels MAX_DEPTH text v h
