-- What a JSON object says by its members, which are known by their unescaped names (RFC 8259, section 4).
use Rattle.std.specs.Prelude.{◌≡◌, ◌⊎◌, ◌≤◌, ℕ, List, [], ◌∷◌, length, Option, Some, None, codes}
use Rattle.ch_base.specs.JsonTree.{Span, Tree, plain, object, null, string, Members}
use Rattle.ch_base.specs.JsonText.{Spells, Unescapes}
use Rattle.ch_base.specs.JsonNames.{Named}
use Rattle.ch_base.specs.JsonParts.{part, spelled_at}

-- the text is an object with these members
abbrev pub IsObjectText : List ℕ → Members → Type 0
IsObjectText text ms = (s : Span) × Spells text (object ms s)

-- no name stands twice
abbrev pub AreDistinct : List ℕ → Members → Type 0
AreDistinct text ms = (name : List ℕ) (vs : List Tree) → Named text name ms vs → length vs ≤ 1

-- no member has the name
abbrev pub HasNone : List ℕ → Members → List ℕ → Type 0
HasNone text ms name = Named text name ms []

-- one member alone has the name, and this is its value
abbrev pub HasOne : List ℕ → Members → List ℕ → Tree → Type 0
HasOne text ms name v = Named text name ms (v ∷ [])

-- the value is a string that stands for x
abbrev pub IsStringOf : List ℕ → Tree → List ℕ → Type 0
IsStringOf text (plain string s) x = Unescapes (part text s) x
IsStringOf text _ x = ⊥

-- the member of the name is a string that stands for x
abbrev pub HasString : List ℕ → Members → List ℕ → List ℕ → Type 0
HasString text ms name x = (v : Tree) × HasOne text ms name v × IsStringOf text v x

-- no member has the name, or the one that has it is null
abbrev pub IsLeftOut : List ℕ → Members → List ℕ → Type 0
IsLeftOut text ms name = HasNone text ms name ⊎ ((s : Span) × HasOne text ms name (plain null s))

-- a string that may be left out
abbrev pub HasOptional : List ℕ → Members → List ℕ → Option (List ℕ) → Type 0
HasOptional text ms name None = IsLeftOut text ms name
HasOptional text ms name (Some x) = HasString text ms name x

-- any value as it is spelled, which is null where there is none
abbrev pub HasSpelled : List ℕ → Members → List ℕ → List ℕ → Type 0
HasSpelled text ms name x =
    (HasNone text ms name × (x ≡ codes "null"))
    ⊎ ((v : Tree) × HasOne text ms name v × (x ≡ part text (spelled_at v)))
