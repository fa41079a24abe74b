-- What the stored entries stand for.
use Rattle.std.specs.Prelude.{ℕ, map}
use Rattle.ch_base.specs.JsonTree as tree
use Rattle.ch_json.specs.Document.{Shape, plain, list, object}
use Rattle.ch_json.specs.declared.span.Span.{Span}
use Rattle.ch_json.specs.declared.entry.Plain.{Plain}
use Rattle.ch_json.specs.declared.entry.Plain.TheVariants.{Null, False, True, Number, Str}
use Rattle.ch_json.specs.declared.entry.Member.{Member}
use Rattle.ch_json.specs.declared.entry.Content.{Content}
use Rattle.ch_json.specs.declared.entry.Content.TheVariants as content
use Rattle.ch_json.specs.declared.entry.Entry.{Entry}

abbrev pub span_of : Span → tree.Span
span_of s = record { from = s.from; to = s.to }

abbrev pub plain_of : Plain → tree.Plain
plain_of Null = tree.null
plain_of False = tree.no
plain_of True = tree.yes
plain_of Number = tree.number
plain_of Str = tree.string

abbrev pub member_of : Member → tree.Span × ℕ
member_of m = (span_of m.key, m.value)

abbrev pub shape_of : Content → Shape
shape_of (content.Plain p) = plain (plain_of p)
shape_of (content.List v) = list v.items
shape_of (content.Object v) = object (map member_of v.items)

abbrev pub held : Entry → Shape × tree.Span
held e = (shape_of e.content, span_of e.span)
