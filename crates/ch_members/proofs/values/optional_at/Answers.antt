use Rattle.ch_json.specs.Entries.{span_of}
use Rattle.ch_members.proofs.MembersOfName.{string_span, string_is, null_from_form, no_optional}
use Rattle.ch_members.proofs.values.optional_at.Goals as goal

pub unescape-requires : goal.unescape-requires
unescape-requires c =
    let text = c.args.text.now in
    let v = c.requires.0 in
    let node = c.requires.1 in
    string_span text v (span_of c.span.result) (c.in-Str.ensures text v node) (c.span.ensures text v node) node.spelled

pub returns-in-Null : goal.returns-in-Null
returns-in-Null c = λ v node. null_from_form v (c.in-Null.ensures c.args.text.now v node)

pub returns-in_ok-string-in-Str : goal.returns-in_ok-string-in-Str
returns-in_ok-string-in-Str c = λ v node.
    let text = c.args.text.now in
    string_is text v (span_of c.span.result) _ (c.in-Str.ensures text v node) (c.span.ensures text v node) c.in_ok-string-in-Str.ensures

pub returns-in_default : goal.returns-in_default
returns-in_default c = λ v node x h.
    no_optional c.args.text.now v c.form.result x (c.form.ensures c.args.text.now v node) c.in_default.not-Null c.in_default.not-Str h
