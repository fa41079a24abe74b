use Rattle.ch_answer.proofs.Plans.{unplanned}
use Rattle.ch_answer.proofs.answering.answer.Goals as goal

pub returns-in_default-clause-answers : goal.returns-in_default-clause-answers
returns-in_default-clause-answers g c =
    unplanned (record { config = c.args.config.now; start = c.args.start; now = c.args.now }) c.args.request.now (g.D.Desk.view c.args.desk.now) _
