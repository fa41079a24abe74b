use Rattle.std.proofs.Common.{◌≡◌, ◌∙◌, true, sym, ap}
use Rattle.std.specs.Prelude.{codes}
use Rattle.ch_base.specs.ObjectMembers.{HasString}
use Rattle.ch_history.specs.Limits.{is_event_name}
use Rattle.ch_members.proofs.Gives.{gives_some, gives_none}
use Rattle.ch_members.proofs.OnlyOne.{member_once}
use Rattle.ch_triggers.proofs.event.event_member.Goals as goal

pub returns-in_default : goal.returns-in_default
returns-in_default c = λ ms object name k.
    gives_none (HasString c.args.text.now ms (codes "name")) c.in_ok-name.field-0 (c.in_ok-name.ensures ms object) c.in_default.not-Some name k.0

pub returns-then-is_event_name : goal.returns-then-is_event_name
returns-then-is_event_name c = λ ms object. (
  gives_some (HasString c.args.text.now ms (codes "name")) c.in_ok-name.field-0 c.in-Some.name (c.in_ok-name.ensures ms object) c.in-Some.is,
  sym (c.is_event_name.ensures ∙ ap is_event_name c.as_str.ensures.same) ∙ c.if-is_event_name.true,
)

pub returns-else-is_event_name : goal.returns-else-is_event_name
returns-else-is_event_name c = λ ms object other k.
    let text = c.args.text.now in
    let name = c.in-Some.name in
    let string = gives_some (HasString text ms (codes "name")) c.in_ok-name.field-0 name (c.in_ok-name.ensures ms object) c.in-Some.is in
    let same : other ≡ name = member_once text (codes "name") ms other name k.0 string in
    let good : is_event_name name ≡ true = ap is_event_name (sym same) ∙ k.1 in
    let found : c.is_event_name.result ≡ is_event_name name = c.is_event_name.ensures ∙ ap is_event_name c.as_str.ensures.same in
    absurd (cc (good, found, c.if-is_event_name.false))
