use Rattle.std.proofs.Common.{◌∙◌, ap, subst, sym}
use Rattle.std.specs.Option.{option_copied}
use Rattle.ch_base.specs.declared.channel.ChanCall.{ChanCall}
use Rattle.ch_base.specs.declared.channel.ChanCall.TheVariants.{Join}
use Rattle.ch_shard.specs.Parts.{JoinGives, LeaveGives, LostGives, PublishGives, SayGives, newcomer}
use Rattle.ch_history.specs.AnswerKinds.{IsAnswerTo}
use Rattle.ch_shard.proofs.Simulation.{moves_by, read_by, Moves-as, answers_so}
use Rattle.ch_shard.proofs.JoinSteps.{joins, join_kind}
use Rattle.ch_shard.proofs.LeaveSteps.{leaves, loses}
use Rattle.ch_shard.proofs.EventSteps.{publishes, says, say_kind}
use Rattle.ch_shard.proofs.TakeSteps.{takes_hooks, looks, lists_users, lists_names}
use Rattle.ch_shard.proofs.channels.Channels.answer.Goals as goal

pub returns-in-Join-clause-moves : goal.returns-in-Join-clause-moves
returns-in-Join-clause-moves c =
    let n = newcomer c.args.caller c.in-Join.socket c.in-Join.channel (option_copied c.as_ref.result) in
    let shown = c.in-Join.is ∙ ap (λ m. Join c.in-Join.socket c.in-Join.channel m c.in-Join.at) (sym c.as_ref.ensures.value) in
    moves_by _ _ _ _ _ (JoinGives c.args.self.now c.join.new.self c.args.now n) _
    (λ a gives. Moves-as _ _ _ _ _ _ a shown (joins c.args.self.now c.join.new.self c.args.now n c.in-Join.at a gives)) c.join.ensures

pub returns-in-Join-clause-kind : goal.returns-in-Join-clause-kind
returns-in-Join-clause-kind c =
    let n = newcomer c.args.caller c.in-Join.socket c.in-Join.channel (option_copied c.as_ref.result) in
    let shown = c.in-Join.is ∙ ap (λ m. Join c.in-Join.socket c.in-Join.channel m c.in-Join.at) (sym c.as_ref.ensures.value) in
    answers_so (IsAnswerTo c.args.call.now) (JoinGives c.args.self.now c.join.new.self c.args.now n) _ _
    (λ a gives. let P = λ (x : ChanCall). IsAnswerTo x a in subst P (sym shown) (join_kind c.args.self.now c.join.new.self c.args.now n c.in-Join.at a gives)) c.join.ensures

pub returns-in-Leave-clause-moves : goal.returns-in-Leave-clause-moves
returns-in-Leave-clause-moves c =
    moves_by _ _ _ _ _ (LeaveGives c.args.self.now c.leave.new.self c.args.now c.in-Leave.socket c.in-Leave.channel) _
    (λ a gives. Moves-as _ _ _ _ _ _ a c.in-Leave.is (leaves _ _ _ _ _ _ _ a gives)) c.leave.ensures

pub returns-in-Lost-clause-moves : goal.returns-in-Lost-clause-moves
returns-in-Lost-clause-moves c =
    moves_by _ _ _ _ _ (LostGives c.args.self.now c.lost.new.self c.args.now c.in-Lost.socket) _
    (λ a gives. Moves-as _ _ _ _ _ _ a c.in-Lost.is (loses _ _ _ _ _ _ a gives)) c.lost.ensures

pub returns-in-Publish-clause-moves : goal.returns-in-Publish-clause-moves
returns-in-Publish-clause-moves c =
    moves_by _ _ _ _ _ (PublishGives c.args.self.now c.publish.new.self c.args.now c.in-Publish.channel c.in-Publish.event c.in-Publish.body c.in-Publish.except) _
    (λ a gives. Moves-as _ _ _ _ _ _ a c.in-Publish.is (publishes _ _ _ _ _ _ _ _ _ a gives)) c.publish.ensures

pub returns-in-Say-clause-moves : goal.returns-in-Say-clause-moves
returns-in-Say-clause-moves c =
    moves_by _ _ _ _ _ (SayGives c.args.self.now c.say.new.self c.args.now c.in-Say.socket c.in-Say.channel c.in-Say.event c.in-Say.body) _
    (λ a gives. Moves-as _ _ _ _ _ _ a c.in-Say.is (says _ _ _ _ _ _ _ _ _ a gives)) c.say.ensures

pub returns-in-Say-clause-kind : goal.returns-in-Say-clause-kind
returns-in-Say-clause-kind c =
    answers_so (IsAnswerTo c.args.call.now) (SayGives c.args.self.now c.say.new.self c.args.now c.in-Say.socket c.in-Say.channel c.in-Say.event c.in-Say.body) _ _
    (λ a gives. let P = λ (x : ChanCall). IsAnswerTo x a in
    subst P (sym c.in-Say.is) (say_kind c.args.self.now c.say.new.self c.args.now c.in-Say.socket c.in-Say.channel c.in-Say.event c.in-Say.body c.in-Say.at a gives)) c.say.ensures

pub returns-in-TakeHooks-clause-moves : goal.returns-in-TakeHooks-clause-moves
returns-in-TakeHooks-clause-moves c =
    (Moves-as _ _ _ _ _ _ _ c.in-TakeHooks.is (takes_hooks _ _ _ _ _ _ c.take_hooks.ensures))

pub returns-in-Names-clause-moves : goal.returns-in-Names-clause-moves
returns-in-Names-clause-moves c =
    read_by c.args.self.now _ _ _ _ _ (Moves-as _ _ _ _ _ _ _ c.in-Names.is (lists_names c.args.self.now c.args.now c.args.caller c.in-Names.prefix)) c.names.ensures

pub returns-in-Look-clause-moves : goal.returns-in-Look-clause-moves
returns-in-Look-clause-moves c =
    read_by c.args.self.now _ _ _ _ _ (Moves-as _ _ _ _ _ _ _ c.in-Look.is (looks c.args.self.now c.args.now c.args.caller c.in-Look.channel c.in-Look.at)) c.look.ensures

pub returns-in-Users-clause-moves : goal.returns-in-Users-clause-moves
returns-in-Users-clause-moves c =
    read_by c.args.self.now _ _ _ _ _ (Moves-as _ _ _ _ _ _ _ c.in-Users.is (lists_users c.args.self.now c.args.now c.args.caller c.in-Users.channel)) c.users.ensures
