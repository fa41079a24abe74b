-- Texts in ascending order: two such lists with the same texts are equal, and what one more text at the end does.
use Rattle.std.proofs.Common.{◌≡◌, ℕ, Bool, true, false, ◌&&◌, ◌||◌, cond, List, [], ◌∷◌, ◌++◌, Ordering, Less, Equal, Greater, bytes_eq, refl, ap, ap₂, sym, ◌∙◌}
use Rattle.std.proofs.Math.Bool.{or_comm, or-false}
use Rattle.std.specs.List.{list_all}
use Rattle.std.specs.Ordering.{is_lt, is_eq, ordering_reverse, nat_cmp}
use Rattle.std.specs.Cmp.Lexicographic.{slice_cmp}
use Rattle.std.proofs.lemmas.Cmp.{nat_list_cmp_total}
use Rattle.std.proofs.lemmas.Map.Text.{is_eq-slice_cmp}
use Rattle.std.proofs.lemmas.List.Folds.{list_any-append}
use Rattle.ch_history.specs.Texts.{is_before, has_text, place, sorted, each_once, ascending}
use Rattle.ch_history.proofs.Lists.{both, neither}
use Rattle.ch_history.proofs.Texts.{same_text, text_itself, other_text, has_text-place, comes_again, has_text-ascending}

abbrev pub compared : List ℕ → List ℕ → Ordering
compared a b = slice_cmp nat_cmp a b

-- The order of texts

less_by : (o : Ordering) → is_lt o ≡ true → o ≡ Less
less_by Less is = refl
less_by Equal is = cc
less_by Greater is = cc

not_equal : (o : Ordering) → is_eq o ≡ true → is_lt o ≡ false
not_equal Less is = cc
not_equal Equal is = refl
not_equal Greater is = refl

greater_by : (o : Ordering) → is_lt o ≡ false → is_eq o ≡ false → o ≡ Greater
greater_by Less less equal = cc
greater_by Equal less equal = cc
greater_by Greater less equal = refl

before_itself : (x : List ℕ) → is_before x x ≡ false
before_itself x = not_equal (compared x x) (is_eq-slice_cmp x x ∙ text_itself x)

before-trans : (x y z : List ℕ) → is_before x y ≡ true → is_before y z ≡ true → is_before x z ≡ true
before-trans x y z first second =
    ap is_lt (nat_list_cmp_total.trans x y z (less_by (compared x y) first) (less_by (compared y z) second))

-- of two texts that differ, one comes first
before_other : (x y : List ℕ) → is_before x y ≡ false → bytes_eq x y ≡ false → is_before y x ≡ true
before_other x y after differs =
    let is : compared x y ≡ Greater = greater_by (compared x y) after (is_eq-slice_cmp x y ∙ differs) in
    ap is_lt (nat_list_cmp_total.antisymm y x ∙ ap ordering_reverse is)

not_both : (x y : List ℕ) → is_before x y ≡ true → is_before y x ≡ false
not_both x y first =
    (elim (is_before y x) as (λ b. is_before y x ≡ b → b ≡ false) [
      | true ↦ (λ second. let again : is_before x x ≡ true = before-trans x y x first second in let no : is_before x x ≡ false = before_itself x in cc)
      | false ↦ (λ second. refl)
    ]) refl

-- Ascending lists

-- each text comes before all that follow it
abbrev pub IsAscending : List (List ℕ) → Type 0
IsAscending [] = Unit {0}
IsAscending (x ∷ xs) = (list_all (is_before x) xs ≡ true) × IsAscending xs

-- a text that x doesn't come before isn't among those that x comes before
absent : (x c : List ℕ) (ys : List (List ℕ)) → list_all (is_before x) ys ≡ true → is_before x c ≡ false → has_text ys c ≡ false
absent x c [] all not_before = refl
absent x c (y ∷ ys) all not_before =
    let parts = both (is_before x y) (list_all (is_before x) ys) all in
    (elim (bytes_eq y c) as (λ b. bytes_eq y c ≡ b → (b || has_text ys c) ≡ false) [
      | true ↦ (λ is. let no : is_before x c ≡ true = ap (is_before x) (sym (same_text y c is)) ∙ parts.0 in cc)
      | false ↦ (λ is. absent x c ys parts.1 not_before)
    ]) refl

-- where the first of one list comes before the first of the other, it isn't in the other
first_absent : (x y : List ℕ) (ys : List (List ℕ)) → list_all (is_before y) ys ≡ true → is_before x y ≡ true → bytes_eq y x ≡ false → has_text (y ∷ ys) x ≡ false
first_absent x y ys all first differs = ap₂ ◌||◌ differs (absent y x ys all (not_both x y first))

first_same : (x y : List ℕ) (xs ys : List (List ℕ)) → IsAscending (x ∷ xs) → IsAscending (y ∷ ys) → ((c : List ℕ) → has_text (x ∷ xs) c ≡ has_text (y ∷ ys) c) → x ≡ y
first_same x y xs ys up_xs up_ys same =
    (elim (bytes_eq x y) as (λ b. bytes_eq x y ≡ b → x ≡ y) [
      | true ↦ (λ is. same_text x y is)
      | false ↦ (λ differs. (elim (is_before x y) as (λ b. is_before x y ≡ b → x ≡ y) [
        | true ↦ (λ first.
            let there : (true || has_text xs x) ≡ has_text (y ∷ ys) x = ap (λ b. b || has_text xs x) (sym (text_itself x)) ∙ same x in
            let no : has_text (y ∷ ys) x ≡ false = first_absent x y ys up_ys.0 first (other_text x y differs) in
            absurd (let lie : true ≡ false = there ∙ no in cc))
        | false ↦ (λ after.
            let there : (true || has_text ys y) ≡ has_text (x ∷ xs) y = ap (λ b. b || has_text ys y) (sym (text_itself y)) ∙ sym (same y) in
            let no : has_text (x ∷ xs) y ≡ false = first_absent y x xs up_xs.0 (before_other x y after differs) differs in
            absurd (let lie : true ≡ false = there ∙ no in cc))
      ]) refl)
    ]) refl

rest_same : (x : List ℕ) (xs ys : List (List ℕ)) → list_all (is_before x) xs ≡ true → list_all (is_before x) ys ≡ true → ((c : List ℕ) → has_text (x ∷ xs) c ≡ has_text (x ∷ ys) c) → (c : List ℕ) → has_text xs c ≡ has_text ys c
rest_same x xs ys up_xs up_ys same c =
    (elim (bytes_eq x c) as (λ b. bytes_eq x c ≡ b → (b || has_text xs c) ≡ (b || has_text ys c) → has_text xs c ≡ has_text ys c) [
      | true ↦ (λ is h.
          let not_before : is_before x c ≡ false = ap (is_before x) (sym (same_text x c is)) ∙ before_itself x in
          absent x c xs up_xs not_before ∙ sym (absent x c ys up_ys not_before))
      | false ↦ (λ is h. h)
    ]) refl (same c)

-- two ascending lists with the same texts are equal
pub IsAscending-unique : (xs ys : List (List ℕ)) → IsAscending xs → IsAscending ys → ((c : List ℕ) → has_text xs c ≡ has_text ys c) → xs ≡ ys
IsAscending-unique [] [] up_xs up_ys same = refl
IsAscending-unique [] (y ∷ ys) up_xs up_ys same =
    let there : false ≡ (true || has_text ys y) = same y ∙ ap (λ b. b || has_text ys y) (text_itself y) in absurd (let lie : false ≡ true = there in cc)
IsAscending-unique (x ∷ xs) [] up_xs up_ys same =
    let there : (true || has_text xs x) ≡ false = ap (λ b. b || has_text xs x) (sym (text_itself x)) ∙ same x in absurd (let lie : true ≡ false = there in cc)
IsAscending-unique (x ∷ xs) (y ∷ ys) up_xs up_ys same =
    let first : x ≡ y = first_same x y xs ys up_xs up_ys same in
    let up : list_all (is_before x) ys ≡ true = ap (λ z. list_all (is_before z) ys) first ∙ up_ys.0 in
    let alike : (c : List ℕ) → has_text (x ∷ xs) c ≡ has_text (x ∷ ys) c = λ c. same c ∙ ap (λ z. has_text (z ∷ ys) c) (sym first) in
    ap₂ (λ z zs. z ∷ zs) first (IsAscending-unique xs ys up_xs.1 up_ys.1 (rest_same x xs ys up_xs.0 up alike))

-- One more text in its place

list_all-place : (p : List ℕ → Bool) (x : List ℕ) (ys : List (List ℕ)) → p x ≡ true → list_all p ys ≡ true → list_all p (place x ys) ≡ true
list_all-place p x [] passes all = ap (λ b. b && true) passes
list_all-place p x (y ∷ ys) passes all =
    let parts = both (p y) (list_all p ys) all in
    elim (is_before x y) as (λ b. list_all p (cond b (x ∷ y ∷ ys) (y ∷ place x ys)) ≡ true) [
      | true ↦ ap₂ ◌&&◌ passes all
      | false ↦ ap₂ ◌&&◌ parts.0 (list_all-place p x ys passes parts.1)
    ]

all_after : (x y : List ℕ) (ys : List (List ℕ)) → is_before x y ≡ true → list_all (is_before y) ys ≡ true → list_all (is_before x) ys ≡ true
all_after x y [] first all = refl
all_after x y (z ∷ ys) first all =
    let parts = both (is_before y z) (list_all (is_before y) ys) all in
    ap₂ ◌&&◌ (before-trans x y z first parts.0) (all_after x y ys first parts.1)

pub IsAscending-place : (x : List ℕ) (ys : List (List ℕ)) → IsAscending ys → has_text ys x ≡ false → IsAscending (place x ys)
IsAscending-place x [] up none = (refl, tt)
IsAscending-place x (y ∷ ys) up none =
    let parts = neither (bytes_eq y x) (has_text ys x) none in
    (elim (is_before x y) as (λ b. is_before x y ≡ b → IsAscending (cond b (x ∷ y ∷ ys) (y ∷ place x ys))) [
      | true ↦ (λ first. (ap₂ ◌&&◌ first (all_after x y ys first up.0), up))
      | false ↦ (λ after. (list_all-place (is_before y) x ys (before_other x y after (other_text y x parts.0)) up.0, IsAscending-place x ys up.1 parts.1))
    ]) refl

-- the texts of any list, each once, ascending
pub IsAscending-ascending : (xs : List (List ℕ)) → IsAscending (ascending xs)
IsAscending-ascending [] = tt
IsAscending-ascending (x ∷ xs) =
    (elim (has_text xs x) as (λ b. has_text xs x ≡ b → IsAscending (sorted (cond b (each_once xs) (x ∷ each_once xs)))) [
      | true ↦ (λ again. IsAscending-ascending xs)
      | false ↦ (λ none. IsAscending-place x (ascending xs) (IsAscending-ascending xs) (has_text-ascending x xs ∙ none))
    ]) refl

-- an ascending list with the texts of another is that list's texts, each once, ascending
pub ascending-unique : (ys xs : List (List ℕ)) → IsAscending ys → ((c : List ℕ) → has_text ys c ≡ has_text xs c) → ys ≡ ascending xs
ascending-unique ys xs up same =
    IsAscending-unique ys (ascending xs) up (IsAscending-ascending xs) (λ c. same c ∙ sym (has_text-ascending c xs))

-- one more text at the end
pub ascending-push : (xs : List (List ℕ)) (x : List ℕ) → ascending (xs ++ x ∷ []) ≡ cond (has_text xs x) (ascending xs) (place x (ascending xs))
ascending-push xs x =
    let all : (c : List ℕ) → has_text (xs ++ x ∷ []) c ≡ (bytes_eq x c || has_text xs c) =
    λ c. list_any-append (λ y. bytes_eq y c) xs (x ∷ []) ∙ or_comm (has_text xs c) (bytes_eq x c || false) ∙ ap (λ b. b || has_text xs c) (or-false (bytes_eq x c)) in
    sym ((elim (has_text xs x) as (λ b. has_text xs x ≡ b → cond b (ascending xs) (place x (ascending xs)) ≡ ascending (xs ++ x ∷ [])) [
      | true ↦ (λ again. ascending-unique (ascending xs) (xs ++ x ∷ []) (IsAscending-ascending xs)
          (λ c. has_text-ascending c xs ∙ sym (comes_again x c xs again) ∙ sym (all c)))
      | false ↦ (λ none. ascending-unique (place x (ascending xs)) (xs ++ x ∷ []) (IsAscending-place x (ascending xs) (IsAscending-ascending xs) (has_text-ascending x xs ∙ none))
          (λ c. has_text-place x c (ascending xs) ∙ ap (λ b. bytes_eq x c || b) (has_text-ascending c xs) ∙ sym (all c)))
    ]) refl)
