-- the parameters of a request's query
use Rattle.std.specs.Prelude.{◌≡◌, ℕ, List, [], ◌∷◌, Option, map, Any, find, option_map, bytes_eq, if◌then◌else◌, Bool}
use Rattle.std.specs.List.Sorted.{IsStrictlySortedBy}
use Rattle.std.specs.Ordering.{nat_cmp, is_lt}
use Rattle.std.specs.Cmp.Lexicographic.{slice_cmp}
use Rattle.ch_sig.specs.declared.query.Param.{Param}

-- whether a name comes before another in the order of their bytes
abbrev pub is_before : List ℕ → List ℕ → Bool
is_before name other = is_lt (slice_cmp nat_cmp name other)

-- each name comes before all that follow, so none stands twice
abbrev pub IsAscending : List Param → Type 0
IsAscending ps = IsStrictlySortedBy (slice_cmp nat_cmp) (map (λ p. p.name) ps)

-- there is a parameter with this name
abbrev pub HasName : List Param → List ℕ → Type 0
HasName ps name = Any (λ p. p.name ≡ name) ps

-- the value of a name, where it is there
abbrev pub value_of : List Param → List ℕ → Option (List ℕ)
value_of ps name = option_map (λ p. p.value) (find (λ p. bytes_eq p.name name) ps)

-- the parameters with one more, before the first whose name doesn't come before its own
abbrev pub with_param : List Param → Param → List Param
with_param [] new = new ∷ []
with_param (p ∷ ps) new = if is_before p.name new.name then p ∷ with_param ps new else new ∷ p ∷ ps
