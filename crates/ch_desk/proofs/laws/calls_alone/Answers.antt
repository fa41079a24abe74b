use Rattle.ch_desk.proofs.AloneCalls as alone
use Rattle.ch_desk.proofs.laws.calls_alone.Goals as goal

pub returns : goal.returns
returns c = record { calls = alone.calls_alone; before = alone.alone_before }
