-- The subscriptions of all channels together.
use Rattle.std.proofs.Common.{◌≡◌, ℕ, ◌+◌, Bool, true, false, ◌||◌, cond, List, [], ◌∷◌, map, length, bytes_eq, refl, ap, ap₂, sym, ◌∙◌, arith}
use Rattle.std.specs.List.{sum_by}
use Rattle.std.proofs.Math.Path.{fun_ext}
use Rattle.std.proofs.lemmas.List.Sums.{sum_by-cons}
use Rattle.ch_history.specs.declared.rows.Subscription.{Subscription}
use Rattle.ch_history.specs.Texts.{is_before, has_text, place, sorted, each_once, ascending}
use Rattle.ch_history.specs.Subscriptions.{on_channel}
use Rattle.ch_history.proofs.Lists.{neither}
use Rattle.ch_history.proofs.Texts.{same_text, text_itself, other_text, has_text-place, has_text-ascending}
use Rattle.ch_subs.specs.Names.{names}

-- Texts of which no two are the same

abbrev Apart : List (List ℕ) → Type 0
Apart [] = Unit {0}
Apart (c ∷ cs) = (has_text cs c ≡ false) × Apart cs

Apart-place : (x : List ℕ) (cs : List (List ℕ)) → Apart cs → has_text cs x ≡ false → Apart (place x cs)
Apart-place x [] apart none = (refl, tt)
Apart-place x (y ∷ ys) apart none =
    let parts = neither (bytes_eq y x) (has_text ys x) none in
    elim (is_before x y) as (λ b. Apart (cond b (x ∷ y ∷ ys) (y ∷ place x ys))) [
      | true ↦ (none, apart)
      | false ↦ (has_text-place x y ys ∙ ap₂ ◌||◌ (other_text y x parts.0) apart.0, Apart-place x ys apart.1 parts.1)
    ]

Apart-ascending : (xs : List (List ℕ)) → Apart (ascending xs)
Apart-ascending [] = tt
Apart-ascending (x ∷ xs) =
    (elim (has_text xs x) as (λ b. has_text xs x ≡ b → Apart (sorted (cond b (each_once xs) (x ∷ each_once xs)))) [
      | true ↦ (λ again. Apart-ascending xs)
      | false ↦ (λ none. Apart-place x (ascending xs) (Apart-ascending xs) (has_text-ascending x xs ∙ none))
    ]) refl

-- Sums

same_sum : {X : Type 0} (f g : X → ℕ) (xs : List X) → ((x : X) → f x ≡ g x) → sum_by f xs ≡ sum_by g xs
same_sum f g xs same = ap (λ h. sum_by h xs) (fun_ext same)

no_sum : {X : Type 0} (xs : List X) → sum_by (λ x. 0) xs ≡ 0
no_sum [] = refl
no_sum (x ∷ xs) = let rest = no_sum xs in let here = sum_by-cons (λ x. 0) x xs in omega arith

two_sums : {X : Type 0} (f g : X → ℕ) (xs : List X) → sum_by (λ x. f x + g x) xs ≡ sum_by f xs + sum_by g xs
two_sums f g [] = refl
two_sums f g (x ∷ xs) =
    let rest = two_sums f g xs in
    let both_here = sum_by-cons (λ x. f x + g x) x xs in
    let f_here = sum_by-cons f x xs in
    let g_here = sum_by-cons g x xs in
    omega arith

-- One channel among them

abbrev is_it : List ℕ → List ℕ → ℕ
is_it x c = cond (bytes_eq c x) 1 0

not_counted : (x : List ℕ) (cs : List (List ℕ)) → has_text cs x ≡ false → sum_by (is_it x) cs ≡ 0
not_counted x [] none = refl
not_counted x (c ∷ cs) none =
    let parts = neither (bytes_eq c x) (has_text cs x) none in
    sum_by-cons (is_it x) c cs ∙ ap₂ (λ b n. cond b 1 0 + n) parts.0 (not_counted x cs parts.1)

counted_once : (x : List ℕ) (cs : List (List ℕ)) → Apart cs → has_text cs x ≡ true → sum_by (is_it x) cs ≡ 1
counted_once x [] apart there = absurd (let lie : false ≡ true = there in cc)
counted_once x (c ∷ cs) apart there =
    sum_by-cons (is_it x) c cs
    ∙ (elim (bytes_eq c x) as (λ b. bytes_eq c x ≡ b → (b || has_text cs x) ≡ true → cond b 1 0 + sum_by (is_it x) cs ≡ 1) [
      | true ↦ (λ is h. ap (λ n. 1 + n) (not_counted x cs (ap (has_text cs) (sym (same_text c x is)) ∙ apart.0)))
      | false ↦ (λ is h. ap (λ n. 0 + n) (counted_once x cs apart.1 h))
    ]) refl there

either_way : (c x : List ℕ) → bytes_eq x c ≡ bytes_eq c x
either_way c x =
    (elim (bytes_eq c x) as (λ b. bytes_eq c x ≡ b → bytes_eq x c ≡ b) [
      | true ↦ (λ is. ap (λ y. bytes_eq y c) (sym (same_text c x is)) ∙ text_itself c)
      | false ↦ (λ is. other_text c x is)
    ]) refl

one_more : (x : Subscription) (xs : List Subscription) (c : List ℕ) → length (on_channel (x ∷ xs) c) ≡ is_it x.channel c + length (on_channel xs c)
one_more x xs c =
    (elim (bytes_eq x.channel c) as (λ b. length (cond b (x ∷ on_channel xs c) (on_channel xs c)) ≡ cond b 1 0 + length (on_channel xs c)) [
      | true ↦ omega arith
      | false ↦ omega arith
    ])
    ∙ ap (λ b. cond b 1 0 + length (on_channel xs c)) (either_way c x.channel)

-- All of them

or_true : (a b : Bool) → b ≡ true → (a || b) ≡ true
or_true true b is = refl
or_true false b is = is

total : (xs : List Subscription) (cs : List (List ℕ)) → Apart cs → ((c : List ℕ) → has_text (map (λ s. s.channel) xs) c ≡ true → has_text cs c ≡ true)
    → sum_by (λ c. length (on_channel xs c)) cs ≡ length xs
total [] cs apart within = no_sum cs
total (x ∷ xs) cs apart within =
    let its = map (λ s. s.channel) xs in
    let rest = total xs cs apart (λ c there. within c (or_true (bytes_eq x.channel c) (has_text its c) there)) in
    let once = counted_once x.channel cs apart (within x.channel (ap (λ b. b || has_text its x.channel) (text_itself x.channel))) in
    let parts = same_sum (λ c. length (on_channel (x ∷ xs) c)) (λ c. is_it x.channel c + length (on_channel xs c)) cs (one_more x xs) ∙ two_sums (is_it x.channel) (λ c. length (on_channel xs c)) cs in
    omega arith

-- the subscriptions of each channel make up all of them
pub open_total : (xs : List Subscription) → sum_by (λ c. length (on_channel xs c)) (names xs) ≡ length xs
open_total xs =
    let its : List (List ℕ) = map (λ s. s.channel) xs in
    total xs (names xs) (Apart-ascending its) (λ c there. has_text-ascending c its ∙ there)
