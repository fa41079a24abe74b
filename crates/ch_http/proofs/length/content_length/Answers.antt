use Rattle.std.proofs.Common.{◌∷◌, [], ◌++◌, take, ap, sym, ◌∙◌, codes}
use Rattle.std.proofs.lemmas.List.{take_more}
use Rattle.ch_requests.specs.Fields.{length_by, values_of}
use Rattle.ch_http.specs.Lengths.{length_of, with_value}
use Rattle.ch_http.proofs.FieldLemmas.{values_of-named, values_of-other}
use Rattle.ch_http.proofs.LengthLemmas.{length_by-push}
use Rattle.ch_http.proofs.length.content_length.Goals.{then-is_named, else-is_named}
use Rattle.ch_http.proofs.length.content_length.Goals as goal

pub fields-preserved : goal.fields-preserved
fields-preserved c =
    let fields = c.args.fields.now in
    let i = c.fields.field-index in
    let f = c.field-item.result in
    let name = codes "content-length" in
    let before = take i fields in
    let next = take_more fields i f c.fields-test.true ∙ ap (λ x. before ++ x ∷ []) (sym c.field-item.is) in
    let onward = ap (λ fs. length_by (values_of name fs)) (sym next) in
    elim c.if-is_named.branch [
      | then-is_named w ↦
          ap length_of (w.length-is ∙ w.with_value-length.ensures ∙ ap (with_value c.fields.length) w.as_slice.ensures)
          ∙ length_by-push (values_of name before) f.value c.fields.length c.fields.invariant
          ∙ ap length_by (sym (values_of-named name before f (sym w.if-is_named.ensures)))
          ∙ onward
      | else-is_named w ↦
          ap length_of w.length-is ∙ c.fields.invariant
          ∙ ap length_by (sym (values_of-other name before f (sym w.if-is_named.ensures)))
          ∙ onward
    ]
