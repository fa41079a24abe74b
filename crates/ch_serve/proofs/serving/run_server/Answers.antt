use Rattle.std.proofs.Common.{ap, sym, ◌∙◌, subst, arith}
use Rattle.ch_house.specs.Houses.{HouseModel}
use Rattle.ch_worker.specs.Workers.{WorkerView}
use Rattle.std.proofs.Common.{List}
use Rattle.ch_serve.proofs.Finishing.{served, whole}
use Rattle.ch_serve.specs.Served.{IsShardedBy, Served}
use Rattle.ch_serve.proofs.serving.run_server.Goals as goal

pub close-closed-requires-clause-all : goal.close-closed-requires-clause-all
close-closed-requires-clause-all g c = λ i below.
    let house = c.in_ok-workers.ensures.house ∙ c.in_ok-house.ensures.own in
    let callers = ap (λ (h : HouseModel). h.chans.callers) house ∙ c.in_ok-house.ensures.callers in
    whole _ _ _ _ _ _ _ c.in_ok-workers.ensures.worked i (omega (arith, callers))

pub returns-then-has_each_turn : goal.returns-then-has_each_turn
returns-then-has_each_turn g c =
    let sharded : IsShardedBy c.args.config.now c.in_ok-house.house =
    record { chans = c.in_ok-house.ensures.chans; users = c.in_ok-house.ensures.users; callers = c.in_ok-house.ensures.callers } in
    let well = served c.args.config.now c.args.turns _ c.args.given.2 c.in_ok-sending_of.field-0 c.in_ok-house.house c.in_ok-workers.workers.items c.run_house.new.desks.passes.slots
    c.close-closed.result sharded c.requires.turns c.in_ok-sending_of.ensures c.in_ok-workers.ensures.worked c.close-closed.ensures.count c.close-closed.ensures.chans
    c.close-closed.ensures.users (c.has_each_turn.ensures.chans c.if-has_each_turn.true) (c.has_each_turn.ensures.users c.if-has_each_turn.true) in
    subst (λ (ws : List WorkerView). Served c.args.config.now c.args.turns c.args.given.2 ws c.close-closed.result) (sym c.from_vec.ensures) well
