use Rattle.ch_json.proofs.Alone as alone
use Rattle.ch_json.proofs.laws.value_alone.Goals as goal

pub returns : goal.returns
returns c = λ text v h. alone.spelled_alone text v h
