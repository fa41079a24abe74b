use Rattle.ch_protocol.proofs.Computed as shown
use Rattle.ch_protocol.proofs.examples.session_examples_hold.Goals as goal

pub returns-clause-subscribes : goal.returns-clause-subscribes
returns-clause-subscribes c = shown.subscribes

pub returns-clause-says : goal.returns-clause-says
returns-clause-says c = shown.says

pub returns-clause-signs_in : goal.returns-clause-signs_in
returns-clause-signs_in c = shown.signs_in

pub returns-clause-authorized : goal.returns-clause-authorized
returns-clause-authorized c = shown.authorized

pub returns-clause-outcomes : goal.returns-clause-outcomes
returns-clause-outcomes c = shown.outcomes

pub returns-clause-settled : goal.returns-clause-settled
returns-clause-settled c = shown.settled
