-- The members of an object that have a name.
use Rattle.std.specs.Prelude.{◌≡◌, ◌⊎◌, ℕ, List, [], ◌∷◌}
use Rattle.ch_base.specs.JsonTree.{Tree, Members, no_members, member}
use Rattle.ch_base.specs.JsonText.{Unescapes}
use Rattle.ch_base.specs.JsonParts.{part}

-- the values, in order, of the members whose unescaped names are this name
abbrev pub Named : List ℕ → List ℕ → Members → List Tree → Type 0
Named text name no_members vs = vs ≡ []
Named text name (member key v ms) vs =
    (Unescapes (part text key) name × ((rest : List Tree) × (vs ≡ v ∷ rest) × Named text name ms rest))
    ⊎ ((Unescapes (part text key) name → ⊥) × Named text name ms vs)
