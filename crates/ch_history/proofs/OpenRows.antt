-- Rows that have a number and a name, as subscriptions, sign-ins and watches do: those of one name, those of one number, and that
-- no two have both alike.
use Rattle.std.proofs.Common.{◌≡◌, ℕ, ◌==◌, Bool, true, false, not, ◌&&◌, ◌||◌, cond, List, [], ◌∷◌, ◌++◌, Option, Some, None, filter, map, find, bytes_eq, option_to_list, refl, ap, ap₂, sym, ◌∙◌, subst, append-nil, arith}
use Rattle.std.proofs.Math.Bool.{and_comm, and-true}
use Rattle.std.specs.List.{list_any}
use Rattle.std.proofs.lemmas.List.Elements.{filter-append}
use Rattle.std.proofs.lemmas.List.Folds.{list_any-append}
use Rattle.std.proofs.lemmas.Bool.Decides.{nat_tests}
use Rattle.ch_history.specs.Texts.{has_text}
use Rattle.ch_history.specs.OpenRows.{rows_after}
use Rattle.ch_history.proofs.Lists.{both, neither, list_any-filter, list_any-map, list_any-same, list_any-false, list_any-part, filter-none, filter-swap, filter-nothing}
use Rattle.ch_history.proofs.Texts.{same_text, text_itself}

-- a step that opens nothing, whatever it is answered
pub opens_nothing : {R : Type 0} (b : Bool) → cond {A = Option R} b None None ≡ None
opens_nothing true = refl
opens_nothing false = refl

-- a step that opens no row and settles none of these
pub rows-same : {S R : Type 0} (opens : S → Option R) (settles : R → S → Bool) (xs : List R) (e : S) → opens e ≡ None → list_any (λ r. settles r e) xs ≡ false → rows_after opens settles xs e ≡ xs
rows-same opens settles xs e nothing none =
    ap₂ (λ ys o. ys ++ option_to_list o) (filter-none (λ r. settles r e) xs none) nothing ∙ append-nil xs

-- a step that settles no row at all
pub none_settled : {S R : Type 0} (settles : R → S → Bool) (xs : List R) (e : S) → ((r : R) → settles r e ≡ false) → list_any (λ r. settles r e) xs ≡ false
none_settled settles xs e none = list_any-same (λ r. settles r e) (λ r. false) xs none ∙ list_any-false xs

-- the first and the only element that passes
pub record IsOnly {R : Type 0} (p : R → Bool) (xs : List R) (r : R) : Type 0 where
  pub found : find p xs ≡ Some r
  pub alone : filter p xs ≡ r ∷ []

module _ {R : Type 0} (number : R → ℕ) (name : R → List ℕ) where
  abbrev pub named : List R → List ℕ → List R
  named xs c = filter (λ r. bytes_eq (name r) c) xs

  -- the rows of one name after one more step
  pub named-after : {S : Type 0} (opens : S → Option R) (settles : R → S → Bool) (xs : List R) (e : S) (c : List ℕ) → named (rows_after opens settles xs e) c ≡ filter (λ r. not (settles r e)) (named xs c) ++ named (option_to_list (opens e)) c
  named-after opens settles xs e c =
      filter-append (λ r. bytes_eq (name r) c) (filter (λ r. not (settles r e)) xs) (option_to_list (opens e))
      ∙ ap (λ ys. ys ++ named (option_to_list (opens e)) c) (filter-swap (λ r. bytes_eq (name r) c) (λ r. not (settles r e)) xs)

  -- among rows of one name it is enough to compare the numbers
  pub own_name : (n : ℕ) (c : List ℕ) (xs : List R) → filter (λ r. not ((number r == n) && bytes_eq (name r) c)) (named xs c) ≡ filter (λ r. not (number r == n)) (named xs c)
  own_name n c [] = refl
  own_name n c (x ∷ xs) =
      let p : R → Bool = λ r. not ((number r == n) && bytes_eq (name r) c) in
      let q : R → Bool = λ r. not (number r == n) in
      (elim (bytes_eq (name x) c) as (λ b. bytes_eq (name x) c ≡ b → filter p (cond b (x ∷ named xs c) (named xs c)) ≡ filter q (cond b (x ∷ named xs c) (named xs c))) [
        | true ↦ (λ here.
            let test : p x ≡ q x = ap not (ap (λ b. (number x == n) && b) here ∙ and-true (number x == n)) in
            ap (λ b. cond b (x ∷ filter p (named xs c)) (filter p (named xs c))) test ∙ ap (λ ys. cond (q x) (x ∷ ys) ys) (own_name n c xs))
        | false ↦ (λ elsewhere. own_name n c xs)
      ]) refl

  -- the names of a number are those among whose rows it is
  pub in_names : (xs : List R) (n : ℕ) (c : List ℕ) → has_text (map name (filter (λ r. number r == n) xs)) c ≡ list_any (λ r. number r == n) (named xs c)
  in_names xs n c =
      list_any-map (λ y. bytes_eq y c) name (filter (λ r. number r == n) xs)
      ∙ list_any-filter (λ r. bytes_eq (name r) c) (λ r. number r == n) xs
      ∙ list_any-same (λ r. bytes_eq (name r) c && (number r == n)) (λ r. (number r == n) && bytes_eq (name r) c) xs (λ r. and_comm (bytes_eq (name r) c) (number r == n))
      ∙ sym (list_any-filter (λ r. number r == n) (λ r. bytes_eq (name r) c) xs)

  -- where the number isn't among the rows of a name, no row has both
  pub not_among : (xs : List R) (n : ℕ) (c : List ℕ) → list_any (λ r. number r == n) (named xs c) ≡ false → list_any (λ r. (number r == n) && bytes_eq (name r) c) xs ≡ false
  not_among xs n c off = sym (list_any-filter (λ r. number r == n) (λ r. bytes_eq (name r) c) xs) ∙ off

  -- No two rows have both alike

  abbrev pub same_place : R → R → Bool
  same_place s t = (number t == number s) && bytes_eq (name t) (name s)

  abbrev pub AreDistinct : List R → Type 0
  AreDistinct [] = Unit {0}
  AreDistinct (r ∷ xs) = (list_any (same_place r) xs ≡ false) × AreDistinct xs

  -- places apart are apart either way
  apart : (s t : R) → same_place t s ≡ false → same_place s t ≡ false
  apart s t is =
      (elim (same_place s t) as (λ b. same_place s t ≡ b → b ≡ false) [
        | true ↦ (λ h.
            let parts : ((number t == number s) ≡ true) × (bytes_eq (name t) (name s) ≡ true) = both (number t == number s) (bytes_eq (name t) (name s)) h in
            let numbers : (number s == number t) ≡ true = grind (arith, nat_tests, parts.0) in
            let names : bytes_eq (name s) (name t) ≡ true = ap (λ c. bytes_eq (name s) c) (same_text (name t) (name s) parts.1) ∙ text_itself (name s) in
            let again : same_place t s ≡ true = ap₂ ◌&&◌ numbers names in cc)
        | false ↦ (λ h. refl)
      ]) refl

  AreDistinct-filter : (p : R → Bool) (xs : List R) → AreDistinct xs → AreDistinct (filter p xs)
  AreDistinct-filter p [] distinct = tt
  AreDistinct-filter p (r ∷ xs) distinct =
      elim (p r) as (λ b. AreDistinct (cond b (r ∷ filter p xs) (filter p xs))) [
        | true ↦ (list_any-part (same_place r) p xs distinct.0, AreDistinct-filter p xs distinct.1)
        | false ↦ AreDistinct-filter p xs distinct.1
      ]

  AreDistinct-push : (xs : List R) (n : R) → AreDistinct xs → list_any (same_place n) xs ≡ false → AreDistinct (xs ++ n ∷ [])
  AreDistinct-push [] n distinct none = (refl, tt)
  AreDistinct-push (r ∷ xs) n distinct none =
      let parts = neither (same_place n r) (list_any (same_place n) xs) none in
      let last : list_any (same_place r) (n ∷ []) ≡ false = ap (λ b. b || false) (apart r n parts.0) in
      (list_any-append (same_place r) xs (n ∷ []) ∙ ap₂ ◌||◌ distinct.0 last, AreDistinct-push xs n distinct.1 parts.1)

  -- after a step that opens nothing
  pub AreDistinct-less : {S : Type 0} (opens : S → Option R) (settles : R → S → Bool) (xs : List R) (e : S) → opens e ≡ None → AreDistinct xs → AreDistinct (rows_after opens settles xs e)
  AreDistinct-less opens settles xs e nothing distinct =
      let kept : List R = filter (λ r. not (settles r e)) xs in
      subst AreDistinct (sym (ap (λ o. kept ++ option_to_list o) nothing ∙ append-nil kept)) (AreDistinct-filter (λ r. not (settles r e)) xs distinct)

  -- after a step that opens a row of which there is none yet
  pub AreDistinct-more : {S : Type 0} (opens : S → Option R) (settles : R → S → Bool) (xs : List R) (e : S) (n : R) → opens e ≡ Some n → list_any (λ r. number r == number n) (named xs (name n)) ≡ false → AreDistinct xs → AreDistinct (rows_after opens settles xs e)
  AreDistinct-more opens settles xs e n is off distinct =
      let stays : R → Bool = λ r. not (settles r e) in
      subst AreDistinct (sym (ap (λ o. filter stays xs ++ option_to_list o) is))
      (AreDistinct-push (filter stays xs) n (AreDistinct-filter stays xs distinct) (list_any-part (same_place n) stays xs (not_among xs (number n) (name n) off)))

  -- a number that is among the rows of a name has one of them
  pub only : (n : ℕ) (c : List ℕ) (ys : List R) → AreDistinct ys → list_any (λ r. number r == n) (named ys c) ≡ true → (r : R) × IsOnly (λ r. number r == n) (named ys c) r
  only n c [] distinct there = absurd (let no : false ≡ true = there in cc)
  only n c (y ∷ ys) distinct there =
      let p : R → Bool = λ r. number r == n in
      let rest : List R = named ys c in
      (elim (bytes_eq (name y) c) as (λ b. bytes_eq (name y) c ≡ b → list_any p (cond b (y ∷ rest) rest) ≡ true → (r : R) × IsOnly p (cond b (y ∷ rest) rest) r) [
        | true ↦ (λ here there. (elim (p y) as (λ b. p y ≡ b → (b || list_any p rest) ≡ true → (r : R) × IsOnly p (y ∷ rest) r) [
          | true ↦ (λ own h.
              let same : number y ≡ n = grind (arith, nat_tests, own) in
              let test : list_any (λ t. (number t == n) && bytes_eq (name t) c) ys ≡ false = ap₂ (λ k x. list_any (λ t. (number t == k) && bytes_eq (name t) x) ys) (sym same) (sym (same_text (name y) c here)) ∙ distinct.0 in
              let none : filter p rest ≡ [] = filter-nothing p rest (list_any-filter p (λ r. bytes_eq (name r) c) ys ∙ test) in
              (y, record { found = ap (λ b. cond b (Some y) (find p rest)) own; alone = ap (λ b. cond b (y ∷ filter p rest) (filter p rest)) own ∙ ap (λ zs. y ∷ zs) none }))
          | false ↦ (λ other h.
              let it = only n c ys distinct.1 h in
              (it.0, record { found = ap (λ b. cond b (Some y) (find p rest)) other ∙ it.1.found; alone = ap (λ b. cond b (y ∷ filter p rest) (filter p rest)) other ∙ it.1.alone }))
        ]) refl there)
        | false ↦ (λ elsewhere there. only n c ys distinct.1 there)
      ]) refl there
