-- Rows under joining numbers, which rise from the oldest on, and how two indexes agree with them.
use Rattle.std.specs.Prelude.{◌≡◌, ℕ, ◌<◌, List, [], ◌∷◌, bytes_eq, Option, IsSome, filter, filter_map, find, map, option_map}
use Rattle.std.specs.Ordering.{nat_cmp}
use Rattle.std.specs.Cmp.Lexicographic.{slice_cmp}
use Rattle.std.specs.List.Sorted.{IsStrictlySortedBy}
use Rattle.std.specs.Map.{keys_of, values_of, lookup}
use Rattle.std.specs.BTreeMap.{BTreeMap, is_at}
use Rattle.ch_index.specs.Nest.{inner}
use Rattle.ch_index.specs.Rows.{is_of, EachOnce}

-- each number is below n
abbrev pub AreBelow : ℕ → List ℕ → Type 0
AreBelow n [] = Unit {0}
AreBelow n (k ∷ ks) = (k < n) × AreBelow n ks

module _ {R : Type 0} (name : R → List ℕ) where
  -- the numbers of the rows with the name c
  abbrev pub numbers_at : List (ℕ × R) → List ℕ → List ℕ
  numbers_at es c = map (λ e. e.0) (filter (λ e. bytes_eq (name e.1) c) es)

  -- the same numbers, each with the mark of its row
  abbrev pub marks_at : {M : Type 0} → (R → M) → List (ℕ × R) → List ℕ → List (ℕ × M)
  marks_at mark es c = map (λ e. (e.0, mark e.1)) (filter (λ e. bytes_eq (name e.1) c) es)

  module _ (socket : R → ℕ) where
    -- the number of the row with this socket and the name c
    abbrev pub number_of : List (ℕ × R) → ℕ → List ℕ → Option ℕ
    number_of es s c = option_map (λ e. e.0) (find (λ e. is_of name socket s c e.1) es)

    -- the numbers rise, no socket has a name twice, and each index has exactly what the rows have: the first
    -- at each name the numbers of its rows with their marks, the second at each socket its names with their numbers
    pub record IsIndexed {M : Type 0} (mark : R → M) (es : List (ℕ × R)) (names : BTreeMap (List ℕ) (BTreeMap ℕ M)) (sockets : BTreeMap ℕ (BTreeMap (List ℕ) ℕ)) : Type 0 where
      pub rising : IsStrictlySortedBy nat_cmp (keys_of es)
      pub once : EachOnce name socket (values_of es)
      pub by_name : (c : List ℕ) → inner (slice_cmp nat_cmp) names c ≡ marks_at mark es c
      pub by_socket : (s : ℕ) (c : List ℕ) → lookup (is_at (slice_cmp nat_cmp c)) (inner nat_cmp sockets s) ≡ number_of es s c

-- the rows under these numbers
abbrev pub rows_under : {R : Type 0} → List (ℕ × R) → List ℕ → List R
rows_under es ks = filter_map (λ k. lookup (is_at (nat_cmp k)) es) ks

-- a row stands under each of these numbers
abbrev pub AreThere : {R : Type 0} → List (ℕ × R) → List ℕ → Type 0
AreThere es [] = Unit {0}
AreThere es (k ∷ ks) = IsSome (lookup (is_at (nat_cmp k)) es) × AreThere es ks
