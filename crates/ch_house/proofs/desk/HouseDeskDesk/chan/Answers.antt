use Rattle.std.proofs.Common.{length}
use Rattle.ch_history.specs.AnswerKinds.{IsAnswerTo}
use Rattle.ch_history.specs.Answers.{answer_of}
use Rattle.ch_history.specs.Placement.{IsLegalAt}
use Rattle.ch_house.specs.Houses.{seen}
use Rattle.ch_desk.specs.ShardLaws as laws
use Rattle.ch_desk.proofs.AnswerKinds.{answer_kind}
use Rattle.ch_house.proofs.DeskCalls.{stays_but_chan}
use Rattle.ch_house.proofs.desk.HouseDeskDesk.chan.Goals as goal

pub returns-clause-kind : goal.returns-clause-kind
returns-clause-kind g c =
    answer_kind IsLegalAt answer_of IsAnswerTo laws.answered laws.kind (c.args.shard, length c.args.self.now.chans) c.args.self.now.caller c.args.call.now c.chan.result
    (seen c.args.self.now c.args.shard) (seen c.chan.new.self c.args.shard) c.chan.ensures.grows c.chan.ensures.legal

pub returns-clause-elsewhere : goal.returns-clause-elsewhere
returns-clause-elsewhere g c =
    stays_but_chan c.args.shard c.args.self.now c.chan.new.self c.chan.ensures.same c.chan.ensures.shards c.chan.ensures.elsewhere
