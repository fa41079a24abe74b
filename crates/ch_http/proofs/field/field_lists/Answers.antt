use Rattle.std.proofs.Common.{◌∙◌, rules}
use Rattle.std.specs.Prelude.{◌&&◌}
use Rattle.std.specs.Str.{str_eq_ignore_ascii_case}
use Rattle.std.proofs.lemmas.Iterator.{YieldsList-from_slice}
use Rattle.std.proofs.lemmas.Iterator.Search.{any_from_yields_List}
use Rattle.ch_requests.specs.Fields.{lists}
use Rattle.ch_http.proofs.FieldLemmas.{list_any-values_of}
use Rattle.ch_http.proofs.field.field_lists.Goals as goal

pub returns : goal.returns
returns c =
    let name = c.args.name.now in
    let word = c.args.word.now in
    let fields = c.args.fields.now in
    any_from_yields_List (λ f. str_eq_ignore_ascii_case f.name name && lists word f.value) _ _ _ c.any.ensures.ran
    (YieldsList-from_slice fields cc) (λ f b q k. search rules)
    ∙ list_any-values_of name word fields
