use Rattle.std.proofs.Common.{◌≡◌, ◌∙◌, true, sym, ap}
use Rattle.std.specs.Prelude.{codes}
use Rattle.ch_base.specs.ObjectMembers.{HasOptional}
use Rattle.ch_members.proofs.Gives.{gives_some, gives_none}
use Rattle.ch_members.proofs.OnlyOne.{optional_once}
use Rattle.ch_triggers.specs.Bodies.{is_socket_or_none}
use Rattle.ch_triggers.proofs.NamesOf.{is_socket, socket_test}
use Rattle.ch_triggers.proofs.event.socket_member.Goals as goal

pub returns-in_default : goal.returns-in_default
returns-in_default c = λ ms object id k.
    gives_none (HasOptional c.args.text.now ms (codes "socket_id")) c.in_ok-socket_id.field-0 (c.in_ok-socket_id.ensures ms object) c.in_default.not-Some id k.0

pub returns-then-is_socket_or_none : goal.returns-then-is_socket_or_none
returns-then-is_socket_or_none c = λ ms object. (
  gives_some (HasOptional c.args.text.now ms (codes "socket_id")) c.in_ok-socket_id.field-0 c.in-Some.socket_id (c.in_ok-socket_id.ensures ms object) c.in-Some.is,
  is_socket c.in-Some.socket_id (sym c.is_socket_or_none.ensures ∙ c.if-is_socket_or_none.true),
)

pub returns-else-is_socket_or_none : goal.returns-else-is_socket_or_none
returns-else-is_socket_or_none c = λ ms object other k.
    let text = c.args.text.now in
    let id = c.in-Some.socket_id in
    let optional = gives_some (HasOptional text ms (codes "socket_id")) c.in_ok-socket_id.field-0 id (c.in_ok-socket_id.ensures ms object) c.in-Some.is in
    let same : other ≡ id = optional_once text (codes "socket_id") ms other id k.0 optional in
    let good : is_socket_or_none id ≡ true = ap is_socket_or_none (sym same) ∙ socket_test other k.1 in
    let found : c.is_socket_or_none.result ≡ is_socket_or_none id = c.is_socket_or_none.ensures in
    absurd (cc (good, found, c.if-is_socket_or_none.false))
