use Rattle.ch_exchange.specs.Hearing.{with_bytes}
use Rattle.ch_exchange.proofs.Coming.{ran_out}
use Rattle.ch_exchange.proofs.serving.Serving.hear.Goals as goal

pub returns-in_default-clause-answers : goal.returns-in_default-clause-answers
returns-in_default-clause-answers g c =
    let r = c.out_of_memory in
    ran_out c.args.self.now (with_bytes c.args.reader.now c.args.bytes.now) (g.D.Desk.view c.args.desk.now) r.result r.ensures

pub returns-in_default-look-clause-answers : goal.returns-in_default-look-clause-answers
returns-in_default-look-clause-answers g c =
    let r = c.out_of_memory-in_default-look in
    ran_out c.args.self.now (with_bytes c.args.reader.now c.args.bytes.now) (g.D.Desk.view c.args.desk.now) r.result r.ensures
