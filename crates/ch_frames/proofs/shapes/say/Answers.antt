use Rattle.std.proofs.Common.{refl}
use Rattle.std.specs.Prelude.{codes}
use Rattle.ch_base.specs.ObjectMembers.{HasString, HasSpelled}
use Rattle.ch_members.proofs.Gives.{gives_some, gives_none}
use Rattle.ch_frames.proofs.ShapesOf.{no_say}
use Rattle.ch_frames.proofs.shapes.say.Goals as goal

pub returns-in_default : goal.returns-in_default
returns-in_default c = λ ms object.
    let text = c.args.text.now in
    let none = gives_none (HasString text ms (codes "channel")) c.in_ok-channel.field-0 (c.in_ok-channel.ensures ms object) c.in_default.not-Some in
    no_say c.args.event text ms (λ channel body hc hb. none channel hc)

pub returns-in_default-2 : goal.returns-in_default-2
returns-in_default-2 c = λ ms object.
    let text = c.args.text.now in
    let none = gives_none (HasSpelled text ms (codes "data")) c.in_ok-body.field-0 (c.in_ok-body.ensures ms object) c.in_default-2.not-Some in
    no_say c.args.event text ms (λ channel body hc hb. none body hb)

pub returns : goal.returns
returns c = λ ms object.
    let text = c.args.text.now in (
      refl,
      gives_some (HasString text ms (codes "channel")) c.in_ok-channel.field-0 c.in-Some.channel (c.in_ok-channel.ensures ms object) c.in-Some.is,
      gives_some (HasSpelled text ms (codes "data")) c.in_ok-body.field-0 c.in-Some-2.body (c.in_ok-body.ensures ms object) c.in-Some-2.is,
    )
