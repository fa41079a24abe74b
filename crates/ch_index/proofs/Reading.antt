-- What the indexes say of the rows: by name, by socket, and the names of all.
use Rattle.std.proofs.Common.{◌≡◌, ℕ, zero, suc, ◌<◌, Bool, true, false, ◌&&◌, ◌||◌, ◌==◌, cond, List, [], ◌∷◌, Option, Some, None, Less, bytes_eq, filter, find, map, option_map, is_some, length, slice_get, nat_lt, refl, ap, ap₂, sym, ◌∙◌, subst, arith}
use Rattle.std.specs.List.{list_any, list_all, AllByRecursion}
use Rattle.std.specs.List.Sorted.{IsStrictlySortedBy}
use Rattle.std.specs.declared.cmp.Ordering.{Ordering}
use Rattle.std.specs.Ordering.{is_eq, is_lt, nat_cmp}
use Rattle.std.specs.Cmp.Lexicographic.{slice_cmp}
use Rattle.std.specs.Map.{keys_of, values_of, lookup}
use Rattle.std.specs.BTreeMap.{BTreeMap, is_at, get}
use Rattle.std.proofs.Math.Bool.{and_comm}
use Rattle.std.proofs.lemmas.Bool.Decides.{nat_tests}
use Rattle.std.proofs.lemmas.Cmp.{eq_by_cmp_equiv, nat_list_cmp_total}
use Rattle.std.proofs.lemmas.Map.Entries.{length-keys_of, option_filter, lookup-filter-values}
use Rattle.std.proofs.lemmas.Map.Keys.{sorted_head, sorted_tail, IsDistinct-from_sorted}
use Rattle.std.proofs.lemmas.Map.Text.{is_eq-slice_cmp}
use Rattle.ch_history.specs.Texts.{has_text, is_before}
use Rattle.ch_history.proofs.Ascending.{IsAscending, ascending-unique}
use Rattle.ch_history.proofs.Lists.{list_any-map, list_any-filter, list_any-same}
use Rattle.ch_index.specs.Nest.{entries_of, inner, is_used, used}
use Rattle.ch_index.specs.Rows.{named, names, is_of, has_row, of_socket, names_in}
use Rattle.ch_index.specs.Numbered.{numbers_at, number_of}
use Rattle.ch_index.proofs.Compared.{is_eq-nat_cmp, number_itself, not_at, less_number, text_swap}
use Rattle.ch_index.proofs.Once.{has_number}

-- Maps in a map

pub sorted_none : {J V : Type 0} (cmp : J → J → Ordering) (o : Option (BTreeMap J V)) → o ≡ None → IsStrictlySortedBy cmp (keys_of (entries_of o))
unfolding IsStrictlySortedBy
sorted_none cmp o none = subst (λ o. IsStrictlySortedBy cmp (keys_of (entries_of o))) (sym none) tt

-- a search in a part, and then for what is used, is one for what is used, and then in the part
pub next_used : {K J V : Type 0} (past : K → Bool) (within : K → Bool) → ((k : K) → within k ≡ past k) → (es : List (K × BTreeMap J V)) → option_map (λ e. e.0) (find (λ e. is_used e.1) (filter (λ e. within e.0) es)) ≡ find past (keys_of (filter (λ e. is_used e.1) es))
next_used past within same [] = refl
next_used {K} {J} {V} past within same (e ∷ es) =
    let later : List (K × BTreeMap J V) = filter (λ e. within e.0) es in
    let kept : List (K × BTreeMap J V) = filter (λ e. is_used e.1) es in
    let rest = next_used past within same es in
    ap (λ b. option_map (λ e. e.0) (find (λ e. is_used e.1) (cond b (e ∷ later) later))) (same e.0)
    ∙ (elim (past e.0) as (λ p. past e.0 ≡ p → option_map (λ e. e.0) (find (λ e. is_used e.1) (cond p (e ∷ later) later)) ≡ find past (keys_of (cond (is_used e.1) (e ∷ kept) kept))) [
      | true ↦ (λ is. elim (is_used e.1) as (λ u. option_map (λ e. e.0) (cond u (Some e) (find (λ e. is_used e.1) later)) ≡ find past (keys_of (cond u (e ∷ kept) kept))) [
        | true ↦ sym (ap (λ p. cond p (Some e.0) (find past (keys_of kept))) is)
        | false ↦ rest
      ])
      | false ↦ (λ is. elim (is_used e.1) as (λ u. option_map (λ e. e.0) (find (λ e. is_used e.1) later) ≡ find past (keys_of (cond u (e ∷ kept) kept))) [
        | true ↦ rest ∙ sym (ap (λ p. cond p (Some e.0) (find past (keys_of kept))) is)
        | false ↦ rest
      ])
    ]) refl

pub and_true : (b : Bool) → (b && true) ≡ b
and_true true = refl
and_true false = refl

-- a part of a list in order is in order
part_above : {K X : Type 0} (cmp : K → K → Ordering) (k : K) (p : K × X → Bool) (es : List (K × X)) → AllByRecursion (λ y. cmp k y ≡ Less) (keys_of es) → AllByRecursion (λ y. cmp k y ≡ Less) (keys_of (filter p es))
part_above cmp k p [] above = tt
part_above cmp k p (e ∷ es) above =
    elim (p e) as (λ b. AllByRecursion (λ y. cmp k y ≡ Less) (keys_of (cond b (e ∷ filter p es) (filter p es)))) [
      | true ↦ (above.0, part_above cmp k p es above.1)
      | false ↦ part_above cmp k p es above.1
    ]

pub sorted_part : {K X : Type 0} (cmp : K → K → Ordering) (p : K × X → Bool) (es : List (K × X)) → IsStrictlySortedBy cmp (keys_of es) → IsStrictlySortedBy cmp (keys_of (filter p es))
unfolding IsStrictlySortedBy
sorted_part cmp p [] rising = tt
sorted_part cmp p (e ∷ es) rising =
    elim (p e) as (λ b. IsStrictlySortedBy cmp (keys_of (cond b (e ∷ filter p es) (filter p es)))) [
      | true ↦ (part_above cmp e.0 p es rising.0, sorted_part cmp p es rising.1)
      | false ↦ sorted_part cmp p es rising.1
    ]

-- Keys of a map of texts

pub ascending_keys : (ks : List (List ℕ)) → IsStrictlySortedBy (slice_cmp nat_cmp) ks → IsAscending ks
ascending_keys [] rising = tt
ascending_keys (k ∷ ks) rising = (all_after ks (sorted_head (slice_cmp nat_cmp) k ks rising), ascending_keys ks (sorted_tail (slice_cmp nat_cmp) k ks rising))
  where
    all_after : (ys : List (List ℕ)) → AllByRecursion (λ y. slice_cmp nat_cmp k y ≡ Less) ys → list_all (is_before k) ys ≡ true
    all_after [] all = refl
    all_after (y ∷ ys) all = ap₂ ◌&&◌ (ap is_lt all.0) (all_after ys all.1)

pub has_key : {V : Type 0} (ms : List (List ℕ × V)) (c : List ℕ) → has_text (keys_of ms) c ≡ is_some (lookup (is_at (slice_cmp nat_cmp c)) ms)
has_key [] c = refl
has_key {V} (m ∷ ms) c =
    ap (λ b. b || has_text (keys_of ms) c) (text_swap m.0 c ∙ sym (is_eq-slice_cmp c m.0))
    ∙ elim (is_eq (slice_cmp nat_cmp c m.0)) as (λ b. (b || has_text (keys_of ms) c) ≡ is_some (cond b (Some m.1) (lookup (is_at (slice_cmp nat_cmp c)) ms))) [
      | true ↦ refl
      | false ↦ has_key ms c
    ]

module _ {R : Type 0} (name : R → List ℕ) where
  pub length-numbers : (es : List (ℕ × R)) (c : List ℕ) → length (numbers_at name es c) ≡ length (named name (values_of es) c)
  length-numbers [] c = refl
  length-numbers (e ∷ es) c =
      elim (bytes_eq (name e.1) c) as (λ b. length (map (λ e. e.0) (cond b (e ∷ filter (λ e. bytes_eq (name e.1) c) es) (filter (λ e. bytes_eq (name e.1) c) es))) ≡ length (cond b (e.1 ∷ named name (values_of es) c) (named name (values_of es) c))) [
        | true ↦ ap suc (length-numbers es c)
        | false ↦ length-numbers es c
      ]

  pub count_named : {V : Type 0} (ms : List (ℕ × V)) (es : List (ℕ × R)) (c : List ℕ) → keys_of ms ≡ numbers_at name es c → length ms ≡ length (named name (values_of es) c)
  count_named ms es c same = sym (length-keys_of ms) ∙ ap length same ∙ length-numbers es c

  -- the row under a number, where there is a number
  abbrev pub row_under : List (ℕ × R) → Option ℕ → Option R
  row_under es None = None
  row_under es (Some k) = lookup (is_at (nat_cmp k)) es

  -- numbers above the first find what is behind it
  above_first : (e : ℕ × R) (es : List (ℕ × R)) (ks : List ℕ) (i : ℕ) → AllByRecursion (λ y. nat_cmp e.0 y ≡ Less) ks → row_under (e ∷ es) (slice_get ks i) ≡ row_under es (slice_get ks i)
  above_first e es [] i above = refl
  above_first e es (k ∷ ks) zero above = ap (λ b. cond b (Some e.1) (lookup (is_at (nat_cmp k)) es)) (not_at k e.0 (less_number e.0 k above.0))
  above_first e es (k ∷ ks) (suc i) above = above_first e es ks i above.1

  pub numbers_above : (n : ℕ) (es : List (ℕ × R)) (c : List ℕ) → AllByRecursion (λ y. nat_cmp n y ≡ Less) (keys_of es) → AllByRecursion (λ y. nat_cmp n y ≡ Less) (numbers_at name es c)
  numbers_above n [] c above = tt
  numbers_above n (e ∷ es) c above =
      elim (bytes_eq (name e.1) c) as (λ b. AllByRecursion (λ y. nat_cmp n y ≡ Less) (map (λ e. e.0) (cond b (e ∷ filter (λ e. bytes_eq (name e.1) c) es) (filter (λ e. bytes_eq (name e.1) c) es)))) [
        | true ↦ (above.0, numbers_above n es c above.1)
        | false ↦ numbers_above n es c above.1
      ]

  -- the row at a place is that under the number at this place
  pub nth_named : (es : List (ℕ × R)) (c : List ℕ) (i : ℕ) → IsStrictlySortedBy nat_cmp (keys_of es) → row_under es (slice_get (numbers_at name es c) i) ≡ slice_get (named name (values_of es) c) i
  nth_named [] c i rising = refl
  nth_named (e ∷ es) c i rising =
      let its = numbers_at name es c in
      let above = numbers_above e.0 es c (sorted_head nat_cmp e.0 (keys_of es) rising) in
      let rest : (j : ℕ) → row_under (e ∷ es) (slice_get its j) ≡ slice_get (named name (values_of es) c) j = λ j. above_first e es its j above ∙ nth_named es c j (sorted_tail nat_cmp e.0 (keys_of es) rising) in
      elim (bytes_eq (name e.1) c) as (λ b. row_under (e ∷ es) (slice_get (map (λ e. e.0) (cond b (e ∷ filter (λ e. bytes_eq (name e.1) c) es) (filter (λ e. bytes_eq (name e.1) c) es))) i) ≡ slice_get (cond b (e.1 ∷ named name (values_of es) c) (named name (values_of es) c)) i) [
        | true ↦ first_or rest i
        | false ↦ rest i
      ]
    where
      first_or : ((j : ℕ) → row_under (e ∷ es) (slice_get (numbers_at name es c) j) ≡ slice_get (named name (values_of es) c) j) → (j : ℕ) → row_under (e ∷ es) (slice_get (e.0 ∷ numbers_at name es c) j) ≡ slice_get (e.1 ∷ named name (values_of es) c) j
      first_or rest zero = ap (λ b. cond b (Some e.1) (lookup (is_at (nat_cmp e.0)) es)) (is_eq-nat_cmp e.0 e.0 ∙ number_itself e.0)
      first_or rest (suc j) = rest j

  module _ (socket : R → ℕ) where
    pub named_in : (xs : List R) (s : ℕ) (c : List ℕ) → has_text (map name (of_socket name socket xs s)) c ≡ has_row name socket xs s c
    named_in xs s c =
        list_any-map (λ y. bytes_eq y c) name (of_socket name socket xs s)
        ∙ list_any-filter (λ r. bytes_eq (name r) c) (λ r. socket r == s) xs
        ∙ list_any-same (λ r. bytes_eq (name r) c && (socket r == s)) (is_of name socket s c) xs (λ r. and_comm (bytes_eq (name r) c) (socket r == s))

    -- a socket's keys in the index are its names
    pub names_are : (ms : List (List ℕ × ℕ)) (es : List (ℕ × R)) (s : ℕ) → IsStrictlySortedBy (slice_cmp nat_cmp) (keys_of ms) → ((c : List ℕ) → lookup (is_at (slice_cmp nat_cmp c)) ms ≡ number_of name socket es s c) → keys_of ms ≡ names_in name socket (values_of es) s
    names_are ms es s rising agrees =
        ascending-unique (keys_of ms) (map name (of_socket name socket (values_of es) s)) (ascending_keys (keys_of ms) rising)
        (λ c. has_key ms c ∙ ap is_some (agrees c) ∙ has_number name socket es s c ∙ sym (named_in (values_of es) s c))

    find_within : (p q : R → Bool) (xs : List R) → find p (filter q xs) ≡ find (λ x. p x && q x) xs
    find_within p q [] = refl
    find_within p q (x ∷ xs) =
        elim (q x) as (λ b. find p (cond b (x ∷ filter q xs) (filter q xs)) ≡ cond (p x && b) (Some x) (find (λ x. p x && q x) xs)) [
          | true ↦ elim (p x) as (λ a. cond a (Some x) (find p (filter q xs)) ≡ cond (a && true) (Some x) (find (λ x. p x && q x) xs)) [ true ↦ refl | false ↦ find_within p q xs ]
          | false ↦ elim (p x) as (λ a. find p (filter q xs) ≡ cond (a && false) (Some x) (find (λ x. p x && q x) xs)) [ true ↦ find_within p q xs | false ↦ find_within p q xs ]
        ]

    number_above : (k n : ℕ) (es : List (ℕ × R)) (s : ℕ) (c : List ℕ) → AllByRecursion (λ y. nat_cmp k y ≡ Less) (keys_of es) → number_of name socket es s c ≡ Some n → k < n
    number_above k n [] s c above is = cc
    number_above k n (e ∷ es) s c above is =
        let p : ℕ × R → Bool = λ e. is_of name socket s c e.1 in
        (elim (p e) as (λ b. option_map (λ e. e.0) (cond b (Some e) (find p es)) ≡ Some n → k < n) [
          | true ↦ (λ is. let same : e.0 ≡ n = cc in subst (λ m. k < m) same (less_number k e.0 above.0))
          | false ↦ (λ is. number_above k n es s c above.1 is)
        ]) is

    -- the row under the number of a socket and a name is theirs
    pub row_of : (es : List (ℕ × R)) (s : ℕ) (c : List ℕ) → IsStrictlySortedBy nat_cmp (keys_of es) → row_under es (number_of name socket es s c) ≡ find (is_of name socket s c) (values_of es)
    row_of [] s c rising = refl
    row_of (e ∷ es) s c rising =
        let p : ℕ × R → Bool = λ e. is_of name socket s c e.1 in
        let above = sorted_head nat_cmp e.0 (keys_of es) rising in
        let rest = row_of es s c (sorted_tail nat_cmp e.0 (keys_of es) rising) in
        elim (p e) as (λ b. row_under (e ∷ es) (option_map (λ e. e.0) (cond b (Some e) (find p es))) ≡ cond b (Some e.1) (find (is_of name socket s c) (values_of es))) [
          | true ↦ ap (λ b. cond b (Some e.1) (lookup (is_at (nat_cmp e.0)) es)) (is_eq-nat_cmp e.0 e.0 ∙ number_itself e.0)
          | false ↦ (elim (number_of name socket es s c) as (λ o. number_of name socket es s c ≡ o → row_under (e ∷ es) o ≡ row_under es o) [
            | Some k ↦ (λ is. ap (λ b. cond b (Some e.1) (lookup (is_at (nat_cmp k)) es)) (not_at k e.0 (number_above e.0 k es s c above is)))
            | None ↦ (λ is. refl)
          ]) refl ∙ rest
        ]

    pub found_row : (es : List (ℕ × R)) (s : ℕ) (c : List ℕ) → IsStrictlySortedBy nat_cmp (keys_of es) → row_under es (number_of name socket es s c) ≡ find (λ r. socket r == s) (named name (values_of es) c)
    found_row es s c rising = row_of es s c rising ∙ sym (find_within (λ r. socket r == s) (λ r. bytes_eq (name r) c) (values_of es))

  -- Names of all

  some_there : (n : ℕ) → nat_lt 0 (suc n) ≡ true
  some_there n = grind (arith, nat_tests)

  some_passes : (p : R → Bool) (xs : List R) → nat_lt 0 (length (filter p xs)) ≡ list_any p xs
  some_passes p [] = refl
  some_passes p (x ∷ xs) =
      elim (p x) as (λ b. nat_lt 0 (length (cond b (x ∷ filter p xs) (filter p xs))) ≡ (b || list_any p xs)) [
        | true ↦ some_there (length (filter p xs))
        | false ↦ some_passes p xs
      ]

  used_there : {V : Type 0} (o : Option (BTreeMap ℕ V)) → is_some (option_filter is_used o) ≡ nat_lt 0 (length (entries_of o))
  used_there None = refl
  used_there (Some m) = elim (is_used m) as (λ b. is_some (cond b (Some m) None) ≡ b) [ true ↦ refl | false ↦ refl ]

  -- the keys with a map that isn't empty are the names of all rows
  pub names_used : {V : Type 0} (maps : BTreeMap (List ℕ) (BTreeMap ℕ V)) (es : List (ℕ × R)) → IsStrictlySortedBy (slice_cmp nat_cmp) (keys_of maps.entries) → ((c : List ℕ) → keys_of (inner (slice_cmp nat_cmp) maps c) ≡ numbers_at name es c) → used maps ≡ names name (values_of es)
  names_used maps es rising agrees =
      let laws = eq_by_cmp_equiv nat_list_cmp_total in
      ascending-unique (used maps) (map name (values_of es)) (ascending_keys (used maps) (sorted_part (slice_cmp nat_cmp) (λ e. is_used e.1) maps.entries rising))
      (λ c. has_key (filter (λ e. is_used e.1) maps.entries) c
      ∙ ap is_some (lookup-filter-values laws is_used c maps.entries (IsDistinct-from_sorted (slice_cmp nat_cmp) (keys_of maps.entries) rising))
      ∙ used_there (get (slice_cmp nat_cmp) maps c)
      ∙ ap (nat_lt 0) (count_named (inner (slice_cmp nat_cmp) maps c) es c (agrees c))
      ∙ some_passes (λ r. bytes_eq (name r) c) (values_of es)
      ∙ sym (list_any-map (λ y. bytes_eq y c) name (values_of es)))
