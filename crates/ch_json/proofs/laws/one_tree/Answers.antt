use Rattle.ch_base.specs.declared.limits.TheConstants.{MAX_DEPTH}
use Rattle.ch_json.proofs.Fronts as fronts
use Rattle.ch_json.proofs.laws.one_tree.Goals as goal

pub returns : goal.returns
returns c = λ text v w h k. fronts.one_tree MAX_DEPTH text v w h k
