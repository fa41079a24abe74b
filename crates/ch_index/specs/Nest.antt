-- Maps in a map.
use Rattle.std.specs.Prelude.{Bool, true, nat_lt, List, [], length, filter, Option, Some, None}
use Rattle.std.specs.Ordering.{is_lt}
use Rattle.std.specs.Map.{keys_of}
use Rattle.std.specs.declared.cmp.Ordering.{Ordering}
use Rattle.std.specs.BTreeMap.{BTreeMap, get}

-- the entries of a map, none where there is no map
abbrev pub entries_of : {J V : Type 0} → Option (BTreeMap J V) → List (J × V)
entries_of None = []
entries_of (Some m) = m.entries

-- the entries of the map at the key k
abbrev pub inner : {K J V : Type 0} → (K → K → Ordering) → BTreeMap K (BTreeMap J V) → K → List (J × V)
inner cmp m k = entries_of (get cmp m k)

-- whether the map isn't empty
abbrev pub is_used : {J V : Type 0} → BTreeMap J V → Bool
is_used m = nat_lt 0 (length m.entries)

-- the keys whose maps aren't empty
abbrev pub used : {K J V : Type 0} → BTreeMap K (BTreeMap J V) → List K
used m = keys_of (filter (λ e. is_used e.1) m.entries)

-- whether the key k comes after the given one, where one is given
abbrev pub is_past : {K : Type 0} → (K → K → Ordering) → Option K → K → Bool
is_past cmp None k = true
is_past cmp (Some after) k = is_lt (cmp after k)

-- those that an iterator has left, none where there is no iterator
abbrev pub those_left : {X : Type 0} → Option (List X) → List X
those_left None = []
those_left (Some xs) = xs
