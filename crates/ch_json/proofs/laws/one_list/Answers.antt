use Rattle.ch_json.proofs.Finding as finding
use Rattle.ch_json.proofs.laws.one_list.Goals as goal

pub returns : goal.returns
returns c = λ text name ms vs ws h k. finding.one_list text name ms vs ws h k
