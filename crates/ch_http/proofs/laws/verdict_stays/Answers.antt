use Rattle.ch_http.proofs.VerdictLemmas as lemmas
use Rattle.ch_http.proofs.laws.verdict_stays.Goals as goal

pub returns : goal.returns
returns c = lemmas.verdict_stays
