-- The rows of a socket, taken out one by one.
use Rattle.std.proofs.Common.{◌≡◌, ℕ, suc, ◌+◌, Bool, true, false, not, ◌||◌, ◌==◌, cond, List, [], ◌∷◌, ◌++◌, Option, Some, None, bytes_eq, filter, find, map, option_map, is_some, IsSome, length, slice_get, refl, ap, ap₂, sym, ◌∙◌, arith}
use Rattle.std.specs.List.{AllByRecursion}
use Rattle.std.specs.List.Sorted.{IsStrictlySortedBy}
use Rattle.std.specs.Ordering.{is_lt, nat_cmp}
use Rattle.std.specs.Map.{keys_of, values_of, lookup, remove_entry}
use Rattle.std.specs.BTreeMap.{is_at}
use Rattle.std.proofs.lemmas.Map.Keys.{ge_from_not_lt}
use Rattle.ch_history.specs.Texts.{has_text, each_once, sorted, place, is_before, ascending}
use Rattle.ch_history.proofs.Lists.{both, neither, filter-none}
use Rattle.ch_history.proofs.Texts.{text_itself, has_text-ascending}
use Rattle.ch_index.specs.Rows.{is_of, has_row, of_socket, names_in, without_one, without_all, EachOnce}
use Rattle.ch_index.specs.Numbered.{AreBelow, number_of}
use Rattle.ch_index.proofs.Compared.{is_eq-nat_cmp, number_itself, same_number}
use Rattle.ch_index.proofs.Once.{has_number, is_of-swap}
use Rattle.ch_index.proofs.Reading.{row_under, row_of, named_in}
use Rattle.ch_index.proofs.Ending.{taken}

length-place : (x : List ℕ) (ys : List (List ℕ)) → length (place x ys) ≡ suc (length ys)
length-place x [] = refl
length-place x (y ∷ ys) =
    elim (is_before x y) as (λ b. length (cond b (x ∷ y ∷ ys) (y ∷ place x ys)) ≡ suc (suc (length ys))) [
      | true ↦ refl
      | false ↦ ap suc (length-place x ys)
    ]

pub first_key : (ks : List (List ℕ)) (x : List ℕ) → slice_get ks 0 ≡ Some x → has_text ks x ≡ true
first_key [] x is = cc
first_key (k ∷ ks) x is = let same : k ≡ x = cc in ap (λ b. b || has_text ks x) (ap (bytes_eq k) (sym same) ∙ text_itself k)

pub no_first : (ks : List (List ℕ)) → slice_get ks 0 ≡ None → ks ≡ []
no_first [] is = refl
no_first (k ∷ ks) is = cc

pub below_push : (n : ℕ) (ks : List ℕ) → AreBelow n ks → AreBelow (n + 1) (ks ++ n ∷ [])
below_push n [] below = (omega arith, tt)
below_push n (k ∷ ks) below = (omega (arith, below.0), below_push n ks below.1)

pub below_last : (n : ℕ) (ks : List ℕ) → AllByRecursion (λ k. is_lt (nat_cmp n k) ≡ false) ks → AreBelow (n + 1) ks
below_last n [] all = tt
below_last n (k ∷ ks) all = (omega (arith, ge_from_not_lt n k all.0), below_last n ks all.1)

pub none_from : {X : Type 0} (o : Option X) → is_some o ≡ false → o ≡ None
none_from None is = refl
none_from (Some x) is = cc

module _ {R : Type 0} (name : R → List ℕ) (socket : R → ℕ) where
  -- a socket has as many names as rows
  pub length-names : (xs : List R) (s : ℕ) → EachOnce name socket xs → length (names_in name socket xs s) ≡ length (of_socket name socket xs s)
  length-names [] s once = refl
  length-names (r ∷ xs) s once =
      let own : List R = of_socket name socket xs s in
      let its : List (List ℕ) = map name own in
      (elim (socket r == s) as (λ b. (socket r == s) ≡ b → length (sorted (each_once (map name (cond b (r ∷ own) own)))) ≡ length (cond b (r ∷ own) own)) [
        | true ↦ (λ here.
            let none : has_text its (name r) ≡ false = named_in name socket xs s (name r) ∙ ap (λ n. has_row name socket xs n (name r)) (sym (same_number (socket r) s here)) ∙ once.0 in
            ap (λ b. length (sorted (cond b (each_once its) (name r ∷ each_once its)))) none
            ∙ length-place (name r) (sorted (each_once its))
            ∙ ap suc (length-names xs s once.1))
        | false ↦ (λ other. length-names xs s once.1)
      ]) refl

  pub number_there : (es : List (ℕ × R)) (n s : ℕ) (c : List ℕ) → number_of name socket es s c ≡ Some n → IsSome (lookup (is_at (nat_cmp n)) es)
  number_there [] n s c is = cc
  number_there (e ∷ es) n s c is =
      let p : ℕ × R → Bool = λ e. is_of name socket s c e.1 in
      let t = is_at (nat_cmp n) in
      (elim (p e) as (λ b. option_map (λ e. e.0) (cond b (Some e) (find p es)) ≡ Some n → IsSome (cond (t e.0) (Some e.1) (lookup t es))) [
        | true ↦ (λ is. let same : e.0 ≡ n = cc in ap (λ b. is_some (cond b (Some e.1) (lookup t es))) (ap t same ∙ is_eq-nat_cmp n n ∙ number_itself n))
        | false ↦ (λ is. let rest = number_there es n s c is in elim (t e.0) as (λ b. IsSome (cond b (Some e.1) (lookup t es))) [ true ↦ refl | false ↦ rest ])
      ]) is

  values-filter : (p : R → Bool) (es : List (ℕ × R)) → values_of (filter (λ e. p e.1) es) ≡ filter p (values_of es)
  values-filter p [] = refl
  values-filter p (e ∷ es) =
      elim (p e.1) as (λ b. values_of (cond b (e ∷ filter (λ e. p e.1) es) (filter (λ e. p e.1) es)) ≡ cond b (e.1 ∷ filter p (values_of es)) (filter p (values_of es))) [
        | true ↦ ap (λ xs. e.1 ∷ xs) (values-filter p es)
        | false ↦ values-filter p es
      ]

  -- what is left without the row under the number of a socket and a name
  pub one_left : (es : List (ℕ × R)) (n s : ℕ) (c : List ℕ) → IsStrictlySortedBy nat_cmp (keys_of es) → EachOnce name socket (values_of es) → number_of name socket es s c ≡ Some n → values_of (remove_entry (is_at (nat_cmp n)) es) ≡ without_one name socket (values_of es) s c
  one_left es n s c rising once is =
      ap values_of (taken name socket name es n s c rising once is).rows ∙ values-filter (λ r. not (is_of name socket s c r)) es

  pub none_left : (es : List (ℕ × R)) (s : ℕ) (c : List ℕ) → number_of name socket es s c ≡ None → values_of es ≡ without_one name socket (values_of es) s c
  none_left es s c none = sym (filter-none (is_of name socket s c) (values_of es) (sym (has_number name socket es s c) ∙ ap is_some none))

  find_socket : (xs : List R) (s : ℕ) (c : List ℕ) → IsSome (find (is_of name socket s c) xs) → option_map socket (find (is_of name socket s c) xs) ≡ Some s
  find_socket [] s c some = cc
  find_socket (x ∷ xs) s c some =
      (elim (is_of name socket s c x) as (λ b. is_of name socket s c x ≡ b → IsSome (cond b (Some x) (find (is_of name socket s c) xs)) → option_map socket (cond b (Some x) (find (is_of name socket s c) xs)) ≡ Some s) [
        | true ↦ (λ is some. ap (λ n. Some n) (same_number (socket x) s (both (socket x == s) (bytes_eq (name x) c) is).0))
        | false ↦ (λ is some. find_socket xs s c some)
      ]) refl some

  -- the row under that number is the socket's
  pub found_socket : (es : List (ℕ × R)) (n s : ℕ) (c : List ℕ) → IsStrictlySortedBy nat_cmp (keys_of es) → number_of name socket es s c ≡ Some n → option_map socket (lookup (is_at (nat_cmp n)) es) ≡ Some s
  found_socket es n s c rising is =
      let at : lookup (is_at (nat_cmp n)) es ≡ find (is_of name socket s c) (values_of es) = ap (row_under name es) (sym is) ∙ row_of name socket es s c rising in
      ap (option_map socket) at ∙ find_socket (values_of es) s c (ap is_some (sym at) ∙ number_there es n s c is)

  -- a socket without names has no rows
  pub no_names : (xs : List R) → ascending (map name xs) ≡ [] → xs ≡ []
  no_names [] none = refl
  no_names (x ∷ xs) none =
      let there : has_text (ascending (map name (x ∷ xs))) (name x) ≡ true = has_text-ascending (name x) (map name (x ∷ xs)) ∙ ap (λ b. b || has_text (map name xs) (name x)) (text_itself (name x)) in
      let not_there : has_text (ascending (map name (x ∷ xs))) (name x) ≡ false = ap (λ ys. has_text ys (name x)) none in
      absurd (let lie : true ≡ false = sym there ∙ not_there in cc)

  -- a row of the socket taken out
  pub others_stay : (test : ℕ → Bool) (es : List (ℕ × R)) (s : ℕ) → option_map socket (lookup test es) ≡ Some s → without_all name socket (values_of (remove_entry test es)) s ≡ without_all name socket (values_of es) s
  others_stay test [] s found = cc
  others_stay test (e ∷ es) s found =
      let rest = without_all name socket (values_of es) s in
      (elim (test e.0) as (λ b. option_map socket (cond b (Some e.1) (lookup test es)) ≡ Some s → without_all name socket (values_of (cond b es (e ∷ remove_entry test es))) s ≡ cond (not (socket e.1 == s)) (e.1 ∷ rest) rest) [
        | true ↦ (λ found. let same : socket e.1 ≡ s = cc in sym (ap (λ b. cond (not b) (e.1 ∷ rest) rest) (ap (λ n. n == s) same ∙ number_itself s)))
        | false ↦ (λ found. ap (λ ys. cond (not (socket e.1 == s)) (e.1 ∷ ys) ys) (others_stay test es s found))
      ]) found

  pub one_less : (test : ℕ → Bool) (es : List (ℕ × R)) (s : ℕ) → option_map socket (lookup test es) ≡ Some s → suc (length (of_socket name socket (values_of (remove_entry test es)) s)) ≡ length (of_socket name socket (values_of es) s)
  one_less test [] s found = cc
  one_less test (e ∷ es) s found =
      let rest = of_socket name socket (values_of es) s in
      (elim (test e.0) as (λ b. option_map socket (cond b (Some e.1) (lookup test es)) ≡ Some s → suc (length (of_socket name socket (values_of (cond b es (e ∷ remove_entry test es))) s)) ≡ length (cond (socket e.1 == s) (e.1 ∷ rest) rest)) [
        | true ↦ (λ found. let same : socket e.1 ≡ s = cc in sym (ap (λ b. length (cond b (e.1 ∷ rest) rest)) (ap (λ n. n == s) same ∙ number_itself s)))
        | false ↦ (λ found. let less = one_less test es s found in
            elim (socket e.1 == s) as (λ b. suc (length (cond b (e.1 ∷ of_socket name socket (values_of (remove_entry test es)) s) (of_socket name socket (values_of (remove_entry test es)) s))) ≡ length (cond b (e.1 ∷ rest) rest)) [
              | true ↦ ap suc less
              | false ↦ less
            ])
      ]) found

  -- where the socket has no rows, all stay
  pub all_stay : (xs : List R) (s : ℕ) → length (of_socket name socket xs s) ≡ 0 → without_all name socket xs s ≡ xs
  all_stay [] s none = refl
  all_stay (x ∷ xs) s none =
      let own = of_socket name socket xs s in
      (elim (socket x == s) as (λ b. length (cond b (x ∷ own) own) ≡ 0 → cond (not b) (x ∷ without_all name socket xs s) (without_all name socket xs s) ≡ x ∷ xs) [
        | true ↦ (λ none. absurd (omega arith))
        | false ↦ (λ none. ap (λ ys. x ∷ ys) (all_stay xs s none))
      ]) none

  -- in rows of which no two have one socket and one name, one isn't among those before it
  pub apart_before : (xs ys : List R) (r : R) → EachOnce name socket (xs ++ r ∷ ys) → has_row name socket xs (socket r) (name r) ≡ false
  apart_before [] ys r once = refl
  apart_before (x ∷ xs) ys r once =
      ap₂ ◌||◌ (is_of-swap name socket r x ∙ absent_in xs ys r x once.0) (apart_before xs ys r once.1)
    where
      absent_in : (xs ys : List R) (r x : R) → has_row name socket (xs ++ r ∷ ys) (socket x) (name x) ≡ false → is_of name socket (socket x) (name x) r ≡ false
      absent_in [] ys r x none = (neither (is_of name socket (socket x) (name x) r) (has_row name socket ys (socket x) (name x)) none).0
      absent_in (z ∷ zs) ys r x none = absent_in zs ys r x (neither (is_of name socket (socket x) (name x) z) (has_row name socket (zs ++ r ∷ ys) (socket x) (name x)) none).1
