use Rattle.ch_base.specs.declared.user.UserCall.TheVariants as user_call
use Rattle.ch_protocol.specs.declared.ask.Ask.TheVariants.{User}
use Rattle.ch_worker.proofs.Takings.{Taking}
use Rattle.ch_worker.proofs.taking.take_users.Given as goal

abbrev pub invariant-loop-shard : goal.invariant-loop-shard
invariant-loop-shard g l = Taking (λ k. User k user_call.Take) l.shard l.initial.clients l.clients (g.D.Desk.view l.initial.desk) (g.D.Desk.view l.desk) l.part
