use Rattle.std.proofs.Common.{◌≡◌, ◌∙◌, List, ℕ, [], ◌∷◌, ◌++◌, true, sym, ap}
use Rattle.std.specs.Prelude.{codes}
use Rattle.ch_base.specs.ObjectMembers.{HasString}
use Rattle.ch_history.specs.UserChannels.{is_subscribable}
use Rattle.ch_members.proofs.Gives.{gives_some, gives_none}
use Rattle.ch_members.proofs.OnlyOne.{member_once}
use Rattle.ch_triggers.proofs.channels.single_channel.Goals as goal

pub returns-then-not-is_absent : goal.returns-then-not-is_absent
returns-then-not-is_absent c = λ ms object channels k.
    let absent : c.is_absent.result ≡ true = (c.is_absent.ensures ms object).1 k.4 in absurd (cc (absent, c.if-not-is_absent.true))

pub returns-in_default : goal.returns-in_default
returns-in_default c = λ ms object channels k.
    gives_none (HasString c.args.text.now ms (codes "channel")) c.in_ok-channel.field-0 (c.in_ok-channel.ensures ms object) c.in_default.not-Some k.0 k.1

pub returns-then-not-is_subscribable : goal.returns-then-not-is_subscribable
returns-then-not-is_subscribable c = λ ms object channels k.
    let text = c.args.text.now in
    let channel = c.in-Some.channel in
    let string = gives_some (HasString text ms (codes "channel")) c.in_ok-channel.field-0 channel (c.in_ok-channel.ensures ms object) c.in-Some.is in
    let same : k.0 ≡ channel = member_once text (codes "channel") ms k.0 channel k.1 string in
    let good : is_subscribable channel ≡ true = ap is_subscribable (sym same) ∙ k.2 in
    let found : c.is_subscribable.result ≡ is_subscribable channel = c.is_subscribable.ensures ∙ ap is_subscribable c.as_str.ensures.same in
    absurd (cc (good, found, c.if-not-is_subscribable.true))

pub returns : goal.returns
returns c = λ ms object.
    let text = c.args.text.now in
    let channel = c.in-Some.channel in (
      channel,
      gives_some (HasString text ms (codes "channel")) c.in_ok-channel.field-0 channel (c.in_ok-channel.ensures ms object) c.in-Some.is,
      sym (c.is_subscribable.ensures ∙ ap is_subscribable c.as_str.ensures.same) ∙ c.if-not-is_subscribable.false,
      c.in_ok-push.ensures.ok ∙ ap (λ (l : List (List ℕ)). l ++ channel ∷ []) c.new-channels.ensures,
      (c.is_absent.ensures ms object).0 c.if-not-is_absent.false,
    )
