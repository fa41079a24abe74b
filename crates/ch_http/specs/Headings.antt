-- What is read of a head.
use Rattle.std.specs.Prelude.{ℕ, List, IsUtf8}
use Rattle.httparse.specs.Spans.{span_bytes}
use Rattle.httparse.specs.declared.spans.HeaderSpan.{HeaderSpan}
use Rattle.ch_requests.specs.Heads.{Heading as Defined, hopeless, unfinished, whole, IsHeading}
use Rattle.ch_requests.specs.declared.head.HeadField.{HeadField}
use Rattle.ch_http.specs.declared.heading.Heading.{Heading}
use Rattle.ch_http.specs.declared.heading.Heading.TheVariants.{Hopeless, Unfinished, Whole}

-- the heading of the definitions
abbrev pub heading_of : Heading → Defined
heading_of Hopeless = hopeless
heading_of Unfinished = unfinished
heading_of (Whole head) = whole head

-- what these first bytes hold of a head
abbrev pub IsHeadingOf : List ℕ → Heading → Type 0
IsHeadingOf first heading = IsHeading first (heading_of heading)

-- the name that the spans cover is a text
abbrev pub HasTextName : List ℕ → HeaderSpan → Type 0
HasTextName first header = IsUtf8 (span_bytes first header.name)

-- the field that the spans cover
abbrev pub field_at : List ℕ → HeaderSpan → HeadField
field_at first header = record { name = span_bytes first header.name; value = span_bytes first header.value }
