use Rattle.ch_backend.proofs.Requests.{answered_alone, on_ok}
use Rattle.ch_backend.proofs.exchanging.answer.Goals as goal

pub returns-clause-answers : goal.returns-clause-answers
returns-clause-answers g c = λ shards lists alone.
    let a = c.args in
    on_ok c.put_reply.result c.put_reply.ensures.ok
    (λ text. answered_alone c.calls_alone.ensures.calls a.config.now a.at a.request.now shards c.in_ok-reply.reply (g.D.Desk.view a.desk.now) (g.D.Desk.view c.answer.new.desk)
    a.out.now.items c.put_reply.new.out.items c.in_ok-reply.ensures.answers text lists alone)
