use Rattle.ch_history.proofs.Watchers.{watchers_law}
use Rattle.ch_ushard.specs.UserShardState.{SignInGives, WatchGives, LostGives, TerminateGives, SendToGives}
use Rattle.ch_ushard.proofs.Simulation.{Stands-served, Stands-answered}
use Rattle.ch_ushard.proofs.Steps.{signs, watches, loses, terminates, sends, takes_frames}
use Rattle.ch_ushard.proofs.shard.UserShard.apply.Goals as goal

pub returns-in-SignIn-clause-stands : goal.returns-in-SignIn-clause-stands
returns-in-SignIn-clause-stands c = λ h stands.
    Stands-served _ _ h _ _ _ (SignInGives c.args.self.now c.sign_in.new.self c.args.caller c.in-SignIn.socket c.in-SignIn.user) _ c.in-SignIn.is c.requires.caller c.requires.formed stands
    (λ a gives. signs _ _ _ _ _ _ a gives) c.sign_in.ensures

pub returns-in-Watch-clause-stands : goal.returns-in-Watch-clause-stands
returns-in-Watch-clause-stands c = λ h stands.
    Stands-served _ _ h _ _ _ (WatchGives c.args.self.now c.watch.new.self c.args.caller c.in-Watch.socket c.in-Watch.watched) _ c.in-Watch.is c.requires.caller c.requires.formed stands
    (λ a gives. watches _ _ _ _ _ _ a gives) c.watch.ensures

pub returns-in-Lost-clause-stands : goal.returns-in-Lost-clause-stands
returns-in-Lost-clause-stands c = λ h stands.
    Stands-served _ _ h _ _ _ (LostGives c.args.self.now c.lost.new.self c.in-Lost.socket) _ c.in-Lost.is c.requires.caller c.requires.formed stands
    (λ a gives. loses _ _ _ _ _ a gives) c.lost.ensures

pub returns-in-Terminate-clause-stands : goal.returns-in-Terminate-clause-stands
returns-in-Terminate-clause-stands c = λ h stands.
    Stands-served _ _ h _ _ _ (TerminateGives c.args.self.now c.terminate.new.self c.in-Terminate.user) _ c.in-Terminate.is c.requires.caller c.requires.formed stands
    (λ a gives. terminates _ _ _ _ _ a gives) c.terminate.ensures

pub returns-in-SendTo-clause-stands : goal.returns-in-SendTo-clause-stands
returns-in-SendTo-clause-stands c = λ h stands.
    Stands-served _ _ h _ _ _ (SendToGives c.args.self.now c.send_to.new.self c.in-SendTo.user c.in-SendTo.event c.in-SendTo.body) _ c.in-SendTo.is c.requires.caller c.requires.formed stands
    (λ a gives. sends _ _ _ _ _ _ _ a gives) c.send_to.ensures

pub returns-in-Take-clause-stands : goal.returns-in-Take-clause-stands
returns-in-Take-clause-stands c = λ h stands.
    Stands-answered _ _ h _ _ _ _ c.in-Take.is c.requires.caller c.requires.formed stands (takes_frames _ _ _ _ c.take.ensures)

pub returns-in-SignIn-clause-watchers : goal.returns-in-SignIn-clause-watchers
returns-in-SignIn-clause-watchers c = λ h stands. watchers_law h stands.legal

pub returns-in-Watch-clause-watchers : goal.returns-in-Watch-clause-watchers
returns-in-Watch-clause-watchers c = λ h stands. watchers_law h stands.legal

pub returns-in-Lost-clause-watchers : goal.returns-in-Lost-clause-watchers
returns-in-Lost-clause-watchers c = λ h stands. watchers_law h stands.legal

pub returns-in-Terminate-clause-watchers : goal.returns-in-Terminate-clause-watchers
returns-in-Terminate-clause-watchers c = λ h stands. watchers_law h stands.legal

pub returns-in-SendTo-clause-watchers : goal.returns-in-SendTo-clause-watchers
returns-in-SendTo-clause-watchers c = λ h stands. watchers_law h stands.legal

pub returns-in-Take-clause-watchers : goal.returns-in-Take-clause-watchers
returns-in-Take-clause-watchers c = λ h stands. watchers_law h stands.legal
