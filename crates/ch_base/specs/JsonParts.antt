-- The parts of a tree, and of the text that spells it.
use Rattle.std.specs.Prelude.{◌≡◌, ℕ, List, [], ◌∷◌, ◌++◌, length, map}
use Rattle.std.specs.List.{slice_range}
use Rattle.ch_base.specs.JsonTree.{Span, Tree, plain, array, object, Items, no_items, item, Members, no_members, member}
use Rattle.ch_base.specs.JsonText.{Value}

-- the part of the text that spells the value
abbrev pub spelled_at : Tree → Span
spelled_at (plain p s) = s
spelled_at (array vs s) = s
spelled_at (object ms s) = s

abbrev pub items_of : Items → List Tree
items_of no_items = []
items_of (item v vs) = v ∷ items_of vs

-- the name's span, quotes and all, and the value of each member
abbrev pub members_of : Members → List (Span × Tree)
members_of no_members = []
members_of (member name v ms) = (name, v) ∷ members_of ms

-- the values that a value holds, in the order of the text
abbrev pub values_of : Tree → List Tree
values_of (plain p s) = []
values_of (array vs s) = items_of vs
values_of (object ms s) = map (λ m. m.1) (members_of ms)

-- the spans of an object's names
abbrev pub names_of : Tree → List Span
names_of (plain p s) = []
names_of (array vs s) = []
names_of (object ms s) = map (λ m. m.0) (members_of ms)

-- the bytes of a span
abbrev pub part : List ℕ → Span → List ℕ
part text s = slice_range text s.from s.to

-- some part of the text spells the value, by the grammar, where the value's spans say
abbrev pub IsSpelledIn : List ℕ → Tree → Type 0
IsSpelledIn text v = (room : ℕ) × (before : List ℕ) × (m : List ℕ) × (k : List ℕ) × (text ≡ before ++ m) × Value (length text) room v m k

-- the span of a value that the text spells
abbrev pub IsPart : List ℕ → Span → Type 0
IsPart text s = (v : Tree) × IsSpelledIn text v × (spelled_at v ≡ s)
