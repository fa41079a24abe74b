use Rattle.ch_exchange.proofs.Cuts as cuts
use Rattle.ch_exchange.proofs.laws.cuts_leave_no_trace.Goals as goal

pub returns : goal.returns
returns c = cuts.cuts_leave_no_trace c.verdict_stays.ensures c.one_verdict.ensures c.one_reading.ensures
