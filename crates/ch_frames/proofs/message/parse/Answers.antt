use Rattle.ch_frames.proofs.VerdictsOf.{code_of, good_of}
use Rattle.ch_frames.proofs.message.parse.Goals as goal

pub returns-clause-code : goal.returns-clause-code
returns-clause-code c = code_of c.args.text.now c.said.result c.said.ensures

pub returns-clause-good : goal.returns-clause-good
returns-clause-good c = good_of c.args.text.now c.said.result c.said.ensures
