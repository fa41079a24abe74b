use Rattle.ch_desk.proofs.OwnEntries.{Makes-none, Makes-then}
use Rattle.ch_desk.proofs.laws.calls_chain.Goals as goal

pub returns : goal.returns
returns c = record { none = Makes-none; chain = Makes-then }
