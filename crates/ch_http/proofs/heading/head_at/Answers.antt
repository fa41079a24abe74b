use Rattle.std.proofs.Common.{◌∙◌, drop, refl}
use Rattle.ch_http.proofs.HeadLemmas.{method_is_text, names_are_text, fields_are}
use Rattle.ch_http.proofs.heading.head_at.Goals as goal

pub text_at-requires-clause-text : goal.text_at-requires-clause-text
text_at-requires-clause-text c = method_is_text c.args.first.now c.args.headers.now c.args.spans.now _ c.requires.head.1

pub fields_at-requires-clause-names : goal.fields_at-requires-clause-names
fields_at-requires-clause-names c = names_are_text c.args.first.now c.args.headers.now c.args.spans.now _ c.requires.head.1

pub returns : goal.returns
returns c =
    let h = c.requires.head.0 in
    let at = c.requires.head.1 in
    let method = c.in_ok-text_at.ensures ∙ at.method in
    let target = c.in_ok-text_at-2.ensures ∙ at.path in
    let fields = c.in_ok-fields_at.ensures ∙ fields_are c.args.first.now c.args.headers.now c.args.spans.now h at in
    (h, drop c.args.spans.now.len c.args.first.now, at.reads, rw (method, target, fields, at.version, at.len) refl)
