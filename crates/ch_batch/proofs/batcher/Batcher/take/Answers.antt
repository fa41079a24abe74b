use Rattle.std.proofs.Common.{[], ◌∷◌, refl, ◌∙◌}
use Rattle.ch_base.specs.declared.channel.ChanCall.TheVariants.{TakeHooks}
use Rattle.ch_protocol.specs.declared.ask.Ask.TheVariants.{Chan}
use Rattle.ch_desk.proofs.OwnEntries.{Makes-none}
use Rattle.ch_batch.proofs.TakesInTurn.{with_nothing}
use Rattle.ch_batch.proofs.batcher.Batcher.take.Goals as goal

pub returns-in_default : goal.returns-in_default
returns-in_default g c = (
  [],
  Makes-none (g.D.Desk.view c.args.desk.now),
  (Chan c.args.shard (TakeHooks c.args.now) ∷ [], refl),
  c.reserve.ensures.state ∙ with_nothing c.args.self.now.state,
)
