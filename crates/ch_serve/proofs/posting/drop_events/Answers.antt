use Rattle.std.proofs.Common.{refl}
use Rattle.ch_base.specs.declared.channel.ChanCall.TheVariants.{TakeHooks}
use Rattle.ch_house.specs.DeskViews.{view_of}
use Rattle.ch_protocol.specs.declared.ask.Ask.TheVariants.{Chan}
use Rattle.ch_serve.proofs.Gathering.{drops_to_next}
use Rattle.ch_serve.proofs.posting.drop_events.Goals as goal

pub loop-shard-preserved : goal.loop-shard-preserved
loop-shard-preserved g c =
    drops_to_next c.args.now c.loop-shard.shard (view_of c.args.desk.now) (view_of c.loop-shard.desk) (view_of c.make.new.desk)
    (record { ask = Chan c.loop-shard.shard (TakeHooks c.args.now); came = c.make.result }) c.calls_chain.ensures.chain c.loop-shard.invariant refl c.make.ensures.calls
