-- The nodes of a document by the values that they stand for.
use Rattle.std.specs.Prelude.{◌≡◌, ◌<◌, ◌≤◌, ℕ, List, [], ◌∷◌, length}
use Rattle.ch_base.specs.JsonTree.{Span as TreeSpan, Tree, plain, array, object, null, no, yes, number, string, Members}
use Rattle.ch_base.specs.JsonParts.{values_of, names_of, members_of, items_of, IsSpelledIn}
use Rattle.ch_json.specs.Document.{Document, Shows}
use Rattle.ch_json.specs.declared.node.Node.{Node}
use Rattle.ch_json.specs.declared.node.Form.{Form}
use Rattle.ch_json.specs.declared.node.Form.TheVariants as form
use Rattle.ch_json.specs.declared.node.Found.{Found}
use Rattle.ch_json.specs.declared.node.Found.TheVariants.{Absent, One, Many}

-- the document has this tree
pub record HasTree (d : Document) (v : Tree) : Type 0 where
  pub top : Shows d.nodes d.top v

-- the node of the document stands for the value, which the text spells
pub record IsNode (text : List ℕ) (d : Document) (node : Node) (v : Tree) : Type 0 where
  pub shown : Shows d.nodes node.index v
  pub spelled : IsSpelledIn text v

-- the node is of this document
abbrev pub HasNode : Document → Node → Type 0
HasNode d node = (text : List ℕ) × (v : Tree) × IsNode text d node v

-- and holds more than i values
abbrev pub HasValue : Document → Node → ℕ → Type 0
HasValue d node i = (text : List ℕ) × (v : Tree) × IsNode text d node v × (i < length (values_of v))

-- and has more than i names
abbrev pub HasName : Document → Node → ℕ → Type 0
HasName d node i = (text : List ℕ) × (v : Tree) × IsNode text d node v × (i < length (names_of v))

-- the node is an object that the text spells
abbrev pub IsObject : List ℕ → Document → Node → Type 0
IsObject text d node = (ms : Members) × (s : TreeSpan) × IsNode text d node (object ms s)

-- the form of a value, with the count of what it holds
abbrev pub form_of : Tree → Form
form_of (plain null s) = form.Null
form_of (plain no s) = form.False
form_of (plain yes s) = form.True
form_of (plain number s) = form.Number
form_of (plain string s) = form.Str
form_of (array vs s) = form.List (length (items_of vs))
form_of (object ms s) = form.Object (length (members_of ms))

-- none, the one or several of these values
abbrev pub Finds : List ℕ → Document → List Tree → Found → Type 0
Finds text d vs Absent = vs ≡ []
Finds text d vs (One node) = (v : Tree) × (vs ≡ v ∷ []) × IsNode text d node v
Finds text d vs Many = 2 ≤ length vs
