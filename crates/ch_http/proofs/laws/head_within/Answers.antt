use Rattle.ch_http.proofs.HandshakeLemmas as lemmas
use Rattle.ch_http.proofs.laws.head_within.Goals as goal

pub returns : goal.returns
returns c = lemmas.head_within
