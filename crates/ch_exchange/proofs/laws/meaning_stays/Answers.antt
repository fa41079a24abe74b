use Rattle.ch_exchange.proofs.Cuts as cuts
use Rattle.ch_exchange.proofs.laws.meaning_stays.Goals as goal

pub returns : goal.returns
returns c = cuts.meaning_stays c.verdict_stays.ensures
