use Rattle.std.specs.Prelude.{Ok, Err}
use Rattle.ch_exchange.specs.Pending.{closing}
use Rattle.ch_exchange.proofs.Coming.{served_by, either}
use Rattle.ch_exchange.proofs.serving.Serving.serve.Goals as goal

pub returns-in-Ok-clause-serves : goal.returns-in-Ok-clause-serves
returns-in-Ok-clause-serves g c =
    let r = c.or_out_of_memory in
    let x = c.self.inside in
    served_by (record { config = x.config.now; start = x.start; now = x.now }) c.args.self.now c.args.request.now (g.D.Desk.view c.args.desk.now) (g.D.Desk.view c.answer.new.desk) c.answer.result (Ok c.in-Ok.reply) r.result
    c.self.view_is c.answer.ensures.answers c.in-Ok.is (either c.closing.result (closing c.in-Ok.reply) r.result c.closing.ensures r.ensures)

pub returns-in-Err-clause-serves : goal.returns-in-Err-clause-serves
returns-in-Err-clause-serves g c =
    let x = c.self.inside in
    served_by (record { config = x.config.now; start = x.start; now = x.now }) c.args.self.now c.args.request.now (g.D.Desk.view c.args.desk.now) (g.D.Desk.view c.answer.new.desk) c.answer.result (Err c.in-Err._memory)
    c.out_of_memory.result c.self.view_is c.answer.ensures.answers c.in-Err.is c.out_of_memory.ensures
