-- The data of an event, with their size.
use Rattle.std.specs.Prelude.{◌≡◌, ℕ, List, length}
use Rattle.ch_base.specs.JsonTree.{Span, Tree, plain, string, Members}
use Rattle.ch_base.specs.JsonText.{Unescapes}
use Rattle.ch_base.specs.JsonParts.{part}
use Rattle.ch_requests.specs.Triggers.{HasData}
use Rattle.ch_triggers.specs.declared.content.Content.{Content}

-- the value is a string that is spelled so, and has so many bytes unescaped
abbrev pub IsContentOf : List ℕ → Tree → Content → Type 0
IsContentOf text v c =
    (s : Span) × (v ≡ plain string s) × (c.body ≡ part text s)
    × ((x : List ℕ) × Unescapes (part text s) x × (c.size ≡ length x))

abbrev pub HasContent : List ℕ → Members → Content → Type 0
HasContent text ms c = HasData text ms c.body c.size
