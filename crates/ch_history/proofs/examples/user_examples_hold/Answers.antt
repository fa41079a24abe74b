use Rattle.ch_history.proofs.UserExamples as proof
use Rattle.ch_history.proofs.examples.user_examples_hold.Goals as goal

pub returns : goal.returns
returns c = record {
  two_signed_in = proof.two_signed_in;
  watched_late = proof.watched_late;
  watches_itself = proof.watches_itself;
}
