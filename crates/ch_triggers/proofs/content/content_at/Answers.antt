use Rattle.std.proofs.Common.{◌∙◌, sym, ap}
use Rattle.ch_base.specs.JsonParts.{part}
use Rattle.ch_base.specs.ObjectMembers.{IsStringOf}
use Rattle.ch_members.proofs.Gives.{gives_some, gives_none}
use Rattle.ch_triggers.proofs.ContentsOf.{content_is, content_string}
use Rattle.ch_triggers.proofs.content.content_at.Goals as goal

pub returns-in_default : goal.returns-in_default
returns-in_default c = λ v node x h.
    let text = c.args.text.now in
    let string = content_string text v x h in
    gives_none (IsStringOf text v) c.in_ok-string.field-0 (c.in_ok-string.ensures v node) c.in_default.not-Some string.0 string.1

pub part-requires : goal.part-requires
part-requires c = (c.requires.0, c.requires.1.spelled, sym (c.span.ensures c.args.text.now c.requires.0 c.requires.1))

pub returns : goal.returns
returns c = λ v node.
    let text = c.args.text.now in
    let is = gives_some (IsStringOf text v) c.in_ok-string.field-0 c.in-Some.string (c.in_ok-string.ensures v node) c.in-Some.is in
    content_is text v c.in-Some.string _ is (c.in_ok-body.ensures ∙ c.part.ensures ∙ ap (part text) (c.span.ensures text v node)) c.len-size.ensures
