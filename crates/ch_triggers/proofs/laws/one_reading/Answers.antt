use Rattle.ch_triggers.proofs.OneReading as reading
use Rattle.ch_triggers.proofs.laws.one_reading.Goals as goal

pub returns : goal.returns
returns c = λ route body a b h k. reading.one_reading route body a b h k
