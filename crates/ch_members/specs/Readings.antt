-- What reading a part of an object answers.
use Rattle.std.specs.Prelude.{◌≡◌, ℕ, List, length, Option, Some, None}
use Rattle.ch_base.specs.JsonTree.{Span, Tree, plain, null, array, object, Items, Members}
use Rattle.ch_base.specs.JsonText.{Spells}
use Rattle.ch_base.specs.JsonParts.{items_of}
use Rattle.ch_base.specs.ObjectMembers.{IsObjectText, AreDistinct, HasOne, IsStringOf}
use Rattle.ch_json.specs.Document.{Document}
use Rattle.ch_json.specs.NodeOf.{HasTree, IsNode}
use Rattle.ch_json.specs.declared.node.Node.{Node}
use Rattle.ch_members.specs.declared.array.Array.{Array}

-- a thing of this kind, or none where there is none
abbrev pub Gives : {A : Type 0} → (A → Type 0) → Option A → Type 0
Gives P (Some x) = P x
Gives {A = A} P None = (x : A) → P x → ⊥

-- the node stands for a value that the text spells
abbrev pub IsValue : List ℕ → Document → Node → Type 0
IsValue text d node = (v : Tree) × IsNode text d node v

-- the node stands for an object with these members
abbrev pub IsObjectOf : List ℕ → Document → Node → Members → Type 0
IsObjectOf text d node ms = (s : Span) × IsNode text d node (object ms s)

-- the document is that of an object in which no name stands twice
pub record IsObjectDoc (text : List ℕ) (d : Document) : Type 0 where
  pub members : Members
  pub span : Span
  pub spelled : Spells text (object members span)
  pub tree : HasTree d (object members span)
  pub distinct : AreDistinct text members

-- the document of the text's object, or none where the text isn't one, or a name stands twice
abbrev pub ReadsObject : List ℕ → Option Document → Type 0
ReadsObject text (Some d) = IsObjectDoc text d
ReadsObject text None = (ms : Members) → IsObjectText text ms → AreDistinct text ms → ⊥

-- the value is null, or a string that stands for x
abbrev pub IsOptionalOf : List ℕ → Tree → Option (List ℕ) → Type 0
IsOptionalOf text v None = (s : Span) × (v ≡ plain null s)
IsOptionalOf text v (Some x) = IsStringOf text v x

-- the node again where its value is an object
abbrev pub IsObjectNode : Tree → Node → Option Node → Type 0
IsObjectNode v node (Some same) = (same ≡ node) × ((ms : Members) × (s : Span) × (v ≡ object ms s))
IsObjectNode v node None = (ms : Members) (s : Span) → v ≡ object ms s → ⊥

-- the document of the text's tree, or none where the text isn't a JSON text
abbrev pub ReadsText : List ℕ → Option Document → Type 0
ReadsText text (Some d) = (v : Tree) × Spells text v × HasTree d v
ReadsText text None = (v : Tree) → Spells text v → ⊥

-- the value is an object in which no name stands twice
abbrev pub IsPlainObject : List ℕ → Tree → Type 0
IsPlainObject text v = (ms : Members) × (s : Span) × (v ≡ object ms s) × AreDistinct text ms

-- the member of the name is an object with these members
abbrev pub HasObject : List ℕ → Members → List ℕ → Members → Type 0
HasObject text ms name inner = (s : Span) × HasOne text ms name (object inner s)

-- the member of the name is an array with these values
abbrev pub HasArray : List ℕ → Members → List ℕ → Items → Type 0
HasArray text ms name vs = (s : Span) × HasOne text ms name (array vs s)

-- the array of the document has these values
pub record IsArrayOf (text : List ℕ) (d : Document) (a : Array) (vs : Items) : Type 0 where
  pub span : Span
  pub node : IsNode text d a.node (array vs span)
  pub count : a.count ≡ length (items_of vs)

-- the object that the member of the name is, or none where there is none
abbrev pub ReadsObjectMember : List ℕ → Document → Members → List ℕ → Option Node → Type 0
ReadsObjectMember text d ms name (Some node) = (inner : Members) × HasObject text ms name inner × IsObjectOf text d node inner
ReadsObjectMember text d ms name None = (inner : Members) → HasObject text ms name inner → ⊥

-- the array that the value is, or none where it is none
abbrev pub ReadsArray : List ℕ → Document → Tree → Option Array → Type 0
ReadsArray text d v (Some a) = (vs : Items) × (s : Span) × (v ≡ array vs s) × IsArrayOf text d a vs
ReadsArray text d v None = (vs : Items) (s : Span) → v ≡ array vs s → ⊥

-- the array that the member of the name is, or none where there is none
abbrev pub ReadsArrayMember : List ℕ → Document → Members → List ℕ → Option Array → Type 0
ReadsArrayMember text d ms name (Some a) = (vs : Items) × HasArray text ms name vs × IsArrayOf text d a vs
ReadsArrayMember text d ms name None = (vs : Items) → HasArray text ms name vs → ⊥
