use Rattle.ch_history.proofs.NameExamples.{kind_examples, name_examples, place_examples}
use Rattle.ch_history.proofs.examples.name_examples_hold.Goals as goal

pub returns : goal.returns
returns c = record { kinds = kind_examples; good = name_examples; places = place_examples }
