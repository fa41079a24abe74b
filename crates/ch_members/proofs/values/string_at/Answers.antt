use Rattle.ch_json.specs.Entries.{span_of}
use Rattle.ch_members.proofs.MembersOfName.{string_span, string_is, no_string}
use Rattle.ch_members.proofs.values.string_at.Goals as goal

pub unescape-requires : goal.unescape-requires
unescape-requires c =
    let text = c.args.text.now in
    let v = c.requires.0 in
    let node = c.requires.1 in
    string_span text v (span_of c.span.result) (c.in-Str.ensures text v node) (c.span.ensures text v node) node.spelled

pub returns-in_ok-string-in-Str : goal.returns-in_ok-string-in-Str
returns-in_ok-string-in-Str c = λ v node.
    let text = c.args.text.now in
    string_is text v (span_of c.span.result) _ (c.in-Str.ensures text v node) (c.span.ensures text v node) c.in_ok-string-in-Str.ensures

pub returns-in_default : goal.returns-in_default
returns-in_default c = λ v node x h. no_string c.args.text.now v c.form.result x (c.form.ensures c.args.text.now v node) c.in_default.not-Str h
