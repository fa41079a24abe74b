use Rattle.ch_http.proofs.VerdictLemmas as lemmas
use Rattle.ch_http.proofs.laws.one_verdict.Goals as goal

pub returns : goal.returns
returns c = lemmas.one_verdict
