use Rattle.std.proofs.Common.{sym, subst}
use Rattle.ch_base.specs.ObjectMembers.{HasString}
use Rattle.ch_members.specs.Readings.{Gives}
use Rattle.ch_frames.specs.Ids.{HasGoodId}
use Rattle.ch_members.proofs.Gives.{gives_some}
use Rattle.ch_members.proofs.OnlyOne.{member_once}
use Rattle.ch_frames.proofs.IdsOf.{gives_good}
use Rattle.ch_frames.proofs.user.id_member.Goals as goal

pub returns-in-Some : goal.returns-in-Some
returns-in-Some c = λ ms object.
    let text = c.args.text.now in
    let name = c.args.name.now in
    let id = c.in-Some.id in
    let here = gives_some (HasString text ms name) c.in_ok-id.field-0 id (c.in_ok-id.ensures ms object) c.in-Some.is in
    subst (Gives (HasGoodId text ms name)) (sym c.good_id.ensures) (gives_good (HasString text ms name) id here (λ x k. member_once text name ms id x here k))

pub returns-in-None : goal.returns-in-None
returns-in-None c = λ ms object x k.
    let none = subst (Gives (HasString c.args.text.now ms c.args.name.now)) c.in-None.is (c.in_ok-id.ensures ms object) in none x k.0
