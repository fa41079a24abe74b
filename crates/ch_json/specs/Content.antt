-- What a stored value holds. Only private clauses cite it.
use Rattle.std.specs.Prelude.{ℕ, List, [], length, map}
use Rattle.ch_json.specs.declared.span.Span.{Span}
use Rattle.ch_json.specs.declared.entry.Plain.{Plain}
use Rattle.ch_json.specs.declared.entry.Plain.TheVariants.{Null, False, True, Number, Str}
use Rattle.ch_json.specs.declared.entry.Content.{Content}
use Rattle.ch_json.specs.declared.entry.Content.TheVariants as content
use Rattle.ch_json.specs.declared.node.Form.{Form}
use Rattle.ch_json.specs.declared.node.Form.TheVariants as form

abbrev pub form_of_plain : Plain → Form
form_of_plain Null = form.Null
form_of_plain False = form.False
form_of_plain True = form.True
form_of_plain Number = form.Number
form_of_plain Str = form.Str

abbrev pub form_of_content : Content → Form
form_of_content (content.Plain p) = form_of_plain p
form_of_content (content.List v) = form.List (length v.items)
form_of_content (content.Object v) = form.Object (length v.items)

-- the entries of the values that it holds
abbrev pub values_in : Content → List ℕ
values_in (content.Plain p) = []
values_in (content.List v) = v.items
values_in (content.Object v) = map (λ m. m.value) v.items

-- the spans of its names
abbrev pub keys_in : Content → List Span
keys_in (content.Plain p) = []
keys_in (content.List v) = []
keys_in (content.Object v) = map (λ m. m.key) v.items
