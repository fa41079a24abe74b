use Rattle.ch_backend.proofs.Requests.{needed, refused, upgraded, answered, on_ok}
use Rattle.ch_backend.proofs.exchanging.exchange_by.Goals as goal

pub returns-in-Need-clause-does : goal.returns-in-Need-clause-does
returns-in-Need-clause-does g c = λ bytes shards verdict lists alone.
    on_ok c.put_need.result c.put_need.ensures.ok
    (needed c.args.config.now c.args.at bytes shards c.args.look.now (g.D.Desk.view c.args.desk.now) c.args.out.now.items c.put_need.new.out.items c.in-Need.is verdict lists)

pub returns-in-Upgrade-clause-does : goal.returns-in-Upgrade-clause-does
returns-in-Upgrade-clause-does g c = λ bytes shards verdict lists alone.
    on_ok c.put_shake.result c.put_shake.ensures.ok
    (upgraded c.args.config.now c.args.at bytes shards c.args.look.now c.in-Upgrade.head (g.D.Desk.view c.args.desk.now) c.args.out.now.items c.put_shake.new.out.items
    c.in-Upgrade.is verdict lists)

pub returns-in-Ready-clause-does : goal.returns-in-Ready-clause-does
returns-in-Ready-clause-does g c = λ bytes shards verdict lists alone.
    on_ok c.answer.result (c.answer.ensures.answers shards lists alone)
    (answered c.args.config.now c.args.at bytes shards c.args.look.now c.in-Ready.request (g.D.Desk.view c.answer.new.desk) c.args.out.now.items c.answer.new.out.items c.in-Ready.is verdict)

pub returns-in-Refuse-clause-does : goal.returns-in-Refuse-clause-does
returns-in-Refuse-clause-does g c = λ bytes shards verdict lists alone.
    on_ok c.put_refusal.result c.put_refusal.ensures.ok
    (refused c.args.config.now c.args.at bytes shards c.args.look.now c.in-Refuse.status (g.D.Desk.view c.args.desk.now) c.args.out.now.items c.put_refusal.new.out.items
    c.in-Refuse.is verdict lists)
