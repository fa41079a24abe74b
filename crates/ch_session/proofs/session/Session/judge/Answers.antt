use Rattle.ch_session.specs.Judging.{known, user_data_of}
use Rattle.ch_session.specs.ReadTexts.{reading_of}
use Rattle.ch_session.proofs.HearingLemmas.{judged_by}
use Rattle.ch_session.proofs.session.Session.judge.Goals as goal

pub returns-in-Ok-clause-judged : goal.returns-in-Ok-clause-judged
returns-in-Ok-clause-judged c = λ start number asks stands.
    judged_by (known c.args.config.now start number asks c.args.now) (reading_of c.args.read) c.in-Ok.message c.judge_message.result
    c.in-Ok.is (c.judge_message.ensures.judged start number asks stands)

pub returns-in-Err-clause-ready : goal.returns-in-Err-clause-ready
returns-in-Err-clause-ready c = c.refuse.ensures.ready c.args.config.now (user_data_of c.args.read.verdict)
