-- The rows of all users are all rows.
use Rattle.std.proofs.Common.{◌≡◌, ℕ, suc, ◌+◌, true, false, ◌||◌, cond, List, [], ◌∷◌, map, length, bytes_eq, refl, ap, ap₂, sym, ◌∙◌, arith}
use Rattle.std.specs.List.{sum_by}
use Rattle.std.proofs.lemmas.List.Sums.{sum_by-cons}
use Rattle.ch_history.specs.declared.rows.UserSocket.{UserSocket}
use Rattle.ch_history.specs.Texts.{has_text, ascending, is_before, place, each_once, sorted}
use Rattle.ch_history.specs.SignIns.{of_user}
use Rattle.ch_history.proofs.Texts.{same_text, text_itself, other_text, comes_again}
use Rattle.ch_history.proofs.Lists.{filter-nothing, list_any-map}

no_more : (n : ℕ) → 0 + n ≡ n
no_more n = omega arith

one_more : (n : ℕ) → suc n ≡ 1 + n
one_more n = omega arith

-- a number for each text, added up
abbrev total : (List ℕ → ℕ) → List (List ℕ) → ℕ
total f [] = 0
total f (u ∷ us) = f u + total f us

total-sum_by : (f : List ℕ → ℕ) (us : List (List ℕ)) → sum_by f us ≡ total f us
total-sum_by f [] = refl
total-sum_by f (u ∷ us) = sum_by-cons f u us ∙ ap (λ n. f u + n) (total-sum_by f us)

total-place : (f : List ℕ → ℕ) (x : List ℕ) (ys : List (List ℕ)) → total f (place x ys) ≡ f x + total f ys
total-place f x [] = refl
total-place f x (y ∷ ys) =
    elim (is_before x y) as (λ b. total f (cond b (x ∷ y ∷ ys) (y ∷ place x ys)) ≡ f x + (f y + total f ys)) [
      | true ↦ refl
      | false ↦ (let rest : total f (place x ys) ≡ f x + total f ys = total-place f x ys in omega (arith, rest))
    ]

total-sorted : (f : List ℕ → ℕ) (xs : List (List ℕ)) → total f (sorted xs) ≡ total f xs
total-sorted f [] = refl
total-sorted f (x ∷ xs) = total-place f x (sorted xs) ∙ ap (λ n. f x + n) (total-sorted f xs)

-- one more of the user's, where it is the user
abbrev one_of : List ℕ → List ℕ → ℕ
one_of x u = cond (bytes_eq x u) 1 0

-- one more row of x is one more at each user that is x
total-more : (f : List ℕ → ℕ) (x : List ℕ) (us : List (List ℕ)) → total (λ u. one_of x u + f u) us ≡ total (one_of x) us + total f us
total-more f x [] = refl
total-more f x (u ∷ us) =
    ap (λ n. (one_of x u + f u) + n) (total-more f x us) ∙ between (one_of x u) (f u) (total (one_of x) us) (total f us)
  where
    between : (a b n m : ℕ) → (a + b) + (n + m) ≡ (a + n) + (b + m)
    between a b n m = omega arith

-- among texts of which each stands once, x is there once or not at all
total-one_of : (x : List ℕ) (us : List (List ℕ)) → total (one_of x) (each_once us) ≡ cond (has_text us x) 1 0
total-one_of x [] = refl
total-one_of x (u ∷ us) =
    (elim (has_text us u) as (λ b. has_text us u ≡ b → total (one_of x) (cond b (each_once us) (u ∷ each_once us)) ≡ cond (bytes_eq u x || has_text us x) 1 0) [
      | true ↦ (λ again. total-one_of x us ∙ ap (λ b. cond b 1 0) (sym (comes_again u x us again)))
      | false ↦ (λ new. ap (λ n. one_of x u + n) (total-one_of x us) ∙ (elim (bytes_eq u x) as (λ b. bytes_eq u x ≡ b → one_of x u + cond (has_text us x) 1 0 ≡ cond (b || has_text us x) 1 0) [
        | true ↦ (λ is.
            let same : u ≡ x = same_text u x is in
            ap₂ (λ b d. cond b 1 0 + cond d 1 0) (ap (bytes_eq x) same ∙ text_itself x) (ap (has_text us) (sym same) ∙ new))
        | false ↦ (λ is. ap (λ b. cond b 1 0 + cond (has_text us x) 1 0) (other_text u x is) ∙ no_more (cond (has_text us x) 1 0))
      ]) refl)
    ]) refl

-- the user of no row has none
none_of : (xs : List UserSocket) (u : List ℕ) → has_text (map (λ r. r.user) xs) u ≡ false → length (of_user xs u) ≡ 0
none_of xs u none =
    ap length (filter-nothing (λ r. bytes_eq r.user u) xs (sym (list_any-map (λ y. bytes_eq y u) (λ r. r.user) xs) ∙ none))

-- one more row
count-more : (r : UserSocket) (xs : List UserSocket) (u : List ℕ) → length (of_user (r ∷ xs) u) ≡ one_of r.user u + length (of_user xs u)
count-more r xs u =
    elim (bytes_eq r.user u) as (λ b. length (cond b (r ∷ of_user xs u) (of_user xs u)) ≡ cond b 1 0 + length (of_user xs u)) [ true ↦ one_more (length (of_user xs u)) | false ↦ sym (no_more (length (of_user xs u))) ]

total-same : (f g : List ℕ → ℕ) (us : List (List ℕ)) → ((u : List ℕ) → f u ≡ g u) → total f us ≡ total g us
total-same f g [] same = refl
total-same f g (u ∷ us) same = ap₂ ◌+◌ (same u) (total-same f g us same)

total-each_once : (xs : List UserSocket) → total (λ u. length (of_user xs u)) (each_once (map (λ r. r.user) xs)) ≡ length xs
total-each_once [] = refl
total-each_once (r ∷ xs) =
    let its : List (List ℕ) = map (λ r. r.user) xs in
    let f : List ℕ → ℕ = λ u. length (of_user xs u) in
    let g : List ℕ → ℕ = λ u. length (of_user (r ∷ xs) u) in
    let all : total g (each_once its) ≡ cond (has_text its r.user) 1 0 + length xs =
    total-same g (λ u. one_of r.user u + f u) (each_once its) (count-more r xs)
    ∙ total-more f r.user (each_once its)
    ∙ ap₂ ◌+◌ (total-one_of r.user its) (total-each_once xs) in
    (elim (has_text its r.user) as (λ b. has_text its r.user ≡ b → total g (cond b (each_once its) (r.user ∷ each_once its)) ≡ suc (length xs)) [
      | true ↦ (λ again. all ∙ ap (λ b. cond b 1 0 + length xs) again ∙ sym (one_more (length xs)))
      | false ↦ (λ new.
          let own : g r.user ≡ 1 = count-more r xs r.user ∙ ap₂ (λ b n. cond b 1 0 + n) (text_itself r.user) (none_of xs r.user new) in
          ap₂ ◌+◌ own (all ∙ ap (λ b. cond b 1 0 + length xs) new ∙ no_more (length xs)) ∙ sym (one_more (length xs)))
    ]) refl

-- the numbers of rows of all users add up to the number of rows
pub sum_by-of_user : (xs : List UserSocket) → sum_by (λ u. length (of_user xs u)) (ascending (map (λ r. r.user) xs)) ≡ length xs
sum_by-of_user xs =
    let f : List ℕ → ℕ = λ u. length (of_user xs u) in
    let its : List (List ℕ) = map (λ r. r.user) xs in
    total-sum_by f (ascending its) ∙ total-sorted f (each_once its) ∙ total-each_once xs
