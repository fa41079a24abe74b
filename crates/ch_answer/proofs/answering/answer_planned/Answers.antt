use Rattle.ch_answer.proofs.Plans.{at_once}
use Rattle.ch_answer.proofs.answering.answer_planned.Goals as goal

pub returns-in-Answer-clause-answers : goal.returns-in-Answer-clause-answers
returns-in-Answer-clause-answers g c = at_once c.in-Answer.reply c.args.planned (g.D.Desk.view c.args.desk.now) c.in-Answer.is
