use Rattle.std.proofs.Common.{length}
use Rattle.ch_history.specs.AnswerKinds.{IsUserAnswerTo}
use Rattle.ch_history.specs.UserAnswers.{user_answer_of}
use Rattle.ch_history.specs.Placement.{IsUserLegalAt}
use Rattle.ch_house.specs.Houses.{seen_user}
use Rattle.ch_desk.specs.ShardLaws as laws
use Rattle.ch_desk.proofs.AnswerKinds.{answer_kind}
use Rattle.ch_house.proofs.DeskCalls.{stays_but_user}
use Rattle.ch_house.proofs.desk.HouseDeskDesk.user.Goals as goal

pub returns-clause-kind : goal.returns-clause-kind
returns-clause-kind g c =
    answer_kind IsUserLegalAt user_answer_of IsUserAnswerTo laws.user_answered laws.user_kind (c.args.shard, length c.args.self.now.users) c.args.self.now.caller c.args.call.now c.user.result
    (seen_user c.args.self.now c.args.shard) (seen_user c.user.new.self c.args.shard) c.user.ensures.grows c.user.ensures.legal

pub returns-clause-elsewhere : goal.returns-clause-elsewhere
returns-clause-elsewhere g c =
    stays_but_user c.args.shard c.args.self.now c.user.new.self c.user.ensures.same c.user.ensures.shards c.user.ensures.elsewhere
