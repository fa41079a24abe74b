use Rattle.std.proofs.Common.{◌+◌, ℕ, sym, subst, arith}
use Rattle.ch_base.specs.declared.user.UserCall.TheVariants as user_call
use Rattle.ch_protocol.specs.declared.ask.Ask.{Ask}
use Rattle.ch_protocol.specs.declared.ask.Ask.TheVariants.{User}
use Rattle.ch_worker.proofs.Takings.{Taking, taking_begins, taking_ends, taking_goes_on}
use Rattle.ch_worker.proofs.taking.take_users.Goals as goal

abbrev ask_of : ℕ → Ask
ask_of k = User k user_call.Take

pub loop-shard-init : goal.loop-shard-init
loop-shard-init g c = taking_begins ask_of c.args.clients.now (g.D.Desk.view c.args.desk.now)

pub take-requires-clause-may : goal.take-requires-clause-may
take-requires-clause-may g c = (tt, omega (arith, c.loop-shard-test.true, c.user_shards-count.ensures.count, c.loop-shard.invariant.same.user_shards), tt)

pub loop-shard-preserved : goal.loop-shard-preserved
loop-shard-preserved g c =
    let l = c.loop-shard in
    subst (λ p. Taking ask_of (l.shard + 1) c.args.clients.now c.take.new.clients (g.D.Desk.view c.args.desk.now) (g.D.Desk.view c.take.new.desk) p) (sym c.and-part.ensures)
    (taking_goes_on ask_of l.shard c.args.clients.now l.clients c.take.new.clients (g.D.Desk.view c.args.desk.now) (g.D.Desk.view l.desk) (g.D.Desk.view c.take.new.desk)
    l.part c.take.result c.take.ensures.0 l.invariant c.take.ensures.1)

pub returns-clause-takes : goal.returns-clause-takes
returns-clause-takes g c =
    let l = c.loop-shard in
    taking_ends ask_of l.shard (g.D.Desk.view c.args.desk.now).user_shards c.args.clients.now l.clients (g.D.Desk.view c.args.desk.now) (g.D.Desk.view l.desk) l.part l.invariant
    (omega (arith, c.loop-shard-test.false, l.auto.shard-end, c.user_shards-count.ensures.count))

pub returns-clause-same : goal.returns-clause-same
returns-clause-same g c = c.loop-shard.invariant.same
