-- The least of ascending ids above one: how it changes with one more id, and that it is the next one in their list.
use Rattle.std.proofs.Common.{◌≡◌, ℕ, zero, suc, ◌<◌, Bool, true, false, ◌&&◌, ◌||◌, cond, List, [], ◌∷◌, ◌++◌, Option, Some, None, Ordering, Less, Equal, Greater, find, map, length, slice_get, bytes_eq, refl, ap, sym, ◌∙◌, append-nil, append_assoc, arith}
use Rattle.std.specs.List.{list_all}
use Rattle.std.specs.Ordering.{is_lt, is_eq}
use Rattle.std.proofs.lemmas.Cmp.{nat_list_cmp_total}
use Rattle.std.proofs.lemmas.Map.Text.{is_eq-slice_cmp}
use Rattle.std.proofs.lemmas.List.{map-append}
use Rattle.ch_base.specs.declared.channel.Member.{Member}
use Rattle.ch_history.specs.Texts.{is_before, has_text, place, ascending}
use Rattle.ch_history.proofs.Lists.{both}
use Rattle.ch_history.proofs.Texts.{same_text, text_itself, has_text-ascending}
use Rattle.ch_history.proofs.Ascending.{compared, IsAscending, IsAscending-ascending, IsAscending-place, ascending-push}
use Rattle.ch_presence.specs.declared.present.Present.{Present}
use Rattle.ch_presence.specs.Members.{present_on, ids_on}
use Rattle.ch_presence.specs.Users.{is_above, is_lower, least_with, users_of}

-- The order of ids

less_by : (o : Ordering) → is_lt o ≡ true → o ≡ Less
less_by Less is = refl
less_by Equal is = cc
less_by Greater is = cc

not_equal : (o : Ordering) → is_eq o ≡ true → is_lt o ≡ false
not_equal Less is = cc
not_equal Equal is = refl
not_equal Greater is = refl

before_itself : (x : List ℕ) → is_before x x ≡ false
before_itself x = not_equal (compared x x) (is_eq-slice_cmp x x ∙ text_itself x)

not_both : (x y : List ℕ) → is_before x y ≡ true → is_before y x ≡ false
not_both x y first =
    (elim (is_before y x) as (λ b. is_before y x ≡ b → b ≡ false) [
      | true ↦ (λ second.
          let again : is_before x x ≡ true = ap is_lt (nat_list_cmp_total.trans x y x (less_by (compared x y) first) (less_by (compared y x) second)) in
          let no : is_before x x ≡ false = before_itself x in cc)
      | false ↦ (λ second. refl)
    ]) refl

-- One more id

-- an id that comes before all is lower than what is found among them
lower_than_found : (q : List ℕ → Bool) (x : List ℕ) (ys : List (List ℕ)) → list_all (is_before x) ys ≡ true → is_lower x (find q ys) ≡ true
lower_than_found q x [] all = refl
lower_than_found q x (y ∷ ys) all =
    let parts = both (is_before x y) (list_all (is_before x) ys) all in
    elim (q y) as (λ b. is_lower x (cond b (Some y) (find q ys)) ≡ true) [
      | true ↦ parts.0
      | false ↦ lower_than_found q x ys parts.1
    ]

-- what all pass, each one that is there passes
passes_there : (p : List ℕ → Bool) (x : List ℕ) (ys : List (List ℕ)) → list_all p ys ≡ true → has_text ys x ≡ true → p x ≡ true
passes_there p x [] all there = cc
passes_there p x (y ∷ ys) all there =
    let parts = both (p y) (list_all p ys) all in
    (elim (bytes_eq y x) as (λ b. bytes_eq y x ≡ b → (b || has_text ys x) ≡ true → p x ≡ true) [
      | true ↦ (λ is h. ap p (sym (same_text y x is)) ∙ parts.0)
      | false ↦ (λ is h. passes_there p x ys parts.1 h)
    ]) refl there

-- an id that is there isn't lower than the first that passes, where it passes too
not_lower_there : (q : List ℕ → Bool) (x : List ℕ) (ys : List (List ℕ)) → IsAscending ys → has_text ys x ≡ true → q x ≡ true → is_lower x (find q ys) ≡ false
not_lower_there q x [] up there passes = cc
not_lower_there q x (y ∷ ys) up there passes =
    (elim (bytes_eq y x) as (λ b. bytes_eq y x ≡ b → (b || has_text ys x) ≡ true → is_lower x (cond (q y) (Some y) (find q ys)) ≡ false) [
      | true ↦ (λ is h.
          let same : y ≡ x = same_text y x is in
          ap (λ b. is_lower x (cond b (Some y) (find q ys))) (ap q same ∙ passes) ∙ ap (is_before x) same ∙ before_itself x)
      | false ↦ (λ is h. elim (q y) as (λ b. is_lower x (cond b (Some y) (find q ys)) ≡ false) [
        | true ↦ not_both y x (passes_there (is_before y) x ys up.0 h)
        | false ↦ not_lower_there q x ys up.1 h passes
      ])
    ]) refl there

find-place : (q : List ℕ → Bool) (x : List ℕ) (ys : List (List ℕ)) → IsAscending ys → IsAscending (place x ys) → find q (place x ys) ≡ cond (q x && is_lower x (find q ys)) (Some x) (find q ys)
find-place q x [] up placed = elim (q x) as (λ a. cond a (Some x) None ≡ cond (a && true) (Some x) None) [ true ↦ refl | false ↦ refl ]
find-place q x (y ∷ ys) up placed =
    (elim (is_before x y) as (λ b. is_before x y ≡ b → IsAscending (cond b (x ∷ y ∷ ys) (y ∷ place x ys)) → find q (cond b (x ∷ y ∷ ys) (y ∷ place x ys)) ≡ cond (q x && is_lower x (find q (y ∷ ys))) (Some x) (find q (y ∷ ys))) [
      | true ↦ (λ first up.
          elim (q x) as (λ a. cond a (Some x) (find q (y ∷ ys)) ≡ cond (a && is_lower x (find q (y ∷ ys))) (Some x) (find q (y ∷ ys))) [
            | true ↦ sym (ap (λ b. cond b (Some x) (find q (y ∷ ys))) (lower_than_found q x (y ∷ ys) up.0))
            | false ↦ refl
          ])
      | false ↦ (λ after up_placed.
          elim (q y) as (λ b. cond b (Some y) (find q (place x ys)) ≡ cond (q x && is_lower x (cond b (Some y) (find q ys))) (Some x) (cond b (Some y) (find q ys))) [
            | true ↦ sym (ap (λ b. cond (q x && b) (Some x) (Some y)) after ∙ elim (q x) as (λ a. cond (a && false) (Some x) (Some y) ≡ Some y) [ true ↦ refl | false ↦ refl ])
            | false ↦ find-place q x ys up.1 up_placed.1
          ])
    ]) refl placed

find-more : (q : List ℕ → Bool) (xs : List (List ℕ)) (x : List ℕ) → find q (ascending (xs ++ x ∷ [])) ≡ cond (q x && is_lower x (find q (ascending xs))) (Some x) (find q (ascending xs))
find-more q xs x =
    let ys : List (List ℕ) = ascending xs in
    ap (find q) (ascending-push xs x)
    ∙ (elim (has_text xs x) as (λ b. has_text xs x ≡ b → find q (cond b ys (place x ys)) ≡ cond (q x && is_lower x (find q ys)) (Some x) (find q ys)) [
      | true ↦ (λ there. (elim (q x) as (λ a. q x ≡ a → find q ys ≡ cond (a && is_lower x (find q ys)) (Some x) (find q ys)) [
        | true ↦ (λ passes. sym (ap (λ b. cond b (Some x) (find q ys)) (not_lower_there q x ys (IsAscending-ascending xs) (has_text-ascending x xs ∙ there) passes)))
        | false ↦ (λ fails. refl)
      ]) refl)
      | false ↦ (λ new. find-place q x ys (IsAscending-ascending xs) (IsAscending-place x ys (IsAscending-ascending xs) (has_text-ascending x xs ∙ new)))
    ]) refl

-- the ids of these rows' users
abbrev ids_of : List Present → List (List ℕ)
ids_of rows = map (λ m. m.user_id) (map (λ r. r.member) rows)

-- the least id with those of these rows, one after another
abbrev pub least_from : Option (List ℕ) → Option (List ℕ) → List Present → Option (List ℕ)
least_from after least [] = least
least_from after least (r ∷ rows) = least_from after (least_with after least r.member.user_id) rows

find-least_from : (after : Option (List ℕ)) (xs : List (List ℕ)) (rows : List Present) → least_from after (find (is_above after) (ascending xs)) rows ≡ find (is_above after) (ascending (xs ++ ids_of rows))
find-least_from after xs [] = ap (λ ys. find (is_above after) (ascending ys)) (sym (append-nil xs))
find-least_from after xs (r ∷ rows) =
    ap (λ o. least_from after o rows) (sym (find-more (is_above after) xs r.member.user_id))
    ∙ find-least_from after (xs ++ r.member.user_id ∷ []) rows
    ∙ ap (λ ys. find (is_above after) (ascending ys)) (append_assoc xs (r.member.user_id ∷ []) (ids_of rows))

-- the least id above one of a channel's users, by its rows one after another
pub least_on : (after : Option (List ℕ)) (rows : List Present) (c : List ℕ) → least_from after None (present_on rows c) ≡ find (is_above after) (ids_on rows c)
least_on after rows c = find-least_from after [] (present_on rows c)

-- the least id above one, with one more member
pub least_more : (after : Option (List ℕ)) (ms : List Member) (m : Member) → find (is_above after) (users_of (ms ++ m ∷ [])) ≡ least_with after (find (is_above after) (users_of ms)) m.user_id
least_more after ms m =
    ap (λ ys. find (is_above after) (ascending ys)) (map-append (λ m. m.user_id) ms (m ∷ []))
    ∙ find-more (is_above after) (map (λ m. m.user_id) ms) m.user_id

-- The next id

find_all : (p : List ℕ → Bool) (ys : List (List ℕ)) → list_all p ys ≡ true → find p ys ≡ slice_get ys 0
find_all p [] all = refl
find_all p (y ∷ ys) all = ap (λ b. cond b (Some y) (find p ys)) (both (p y) (list_all p ys) all).0

pub first_id : (ys : List (List ℕ)) → find (is_above None) ys ≡ slice_get ys 0
first_id [] = refl
first_id (y ∷ ys) = refl

passes_at : (p : List ℕ → Bool) (ys : List (List ℕ)) (k : ℕ) → k < length ys → list_all p ys ≡ true → (x : List ℕ) × (slice_get ys k ≡ Some x) × (p x ≡ true)
passes_at p [] k inside all = absurd (omega arith)
passes_at p (y ∷ ys) zero inside all = (y, refl, (both (p y) (list_all p ys) all).0)
passes_at p (y ∷ ys) (suc k) inside all = passes_at p ys k (omega arith) (both (p y) (list_all p ys) all).1

pub within : (ys : List (List ℕ)) (k : ℕ) (x : List ℕ) → slice_get ys k ≡ Some x → k < length ys
within [] k x at = cc
within (y ∷ ys) zero x at = omega arith
within (y ∷ ys) (suc k) x at = let rest = within ys k x at in omega (arith, rest)

-- the least id above one in an ascending list is the one after it
id_after : (ys : List (List ℕ)) (k : ℕ) → IsAscending ys → k < length ys → find (is_above (slice_get ys k)) ys ≡ slice_get ys (suc k)
id_after [] k up inside = absurd (omega arith)
id_after (y ∷ ys) zero up inside = ap (λ b. cond b (Some y) (find (is_before y) ys)) (before_itself y) ∙ find_all (is_before y) ys up.0
id_after (y ∷ ys) (suc k) up inside =
    let at = passes_at (is_before y) ys k (omega arith) up.0 in
    let below : is_above (slice_get ys k) y ≡ false = ap (λ o. is_above o y) at.1 ∙ not_both y at.0 at.2 in
    ap (λ b. cond b (Some y) (find (is_above (slice_get ys k)) ys)) below ∙ id_after ys k up.1 (omega arith)

-- the least id above the one with a place has the next place
pub id_next : (ys : List (List ℕ)) (k : ℕ) (x : List ℕ) → IsAscending ys → slice_get ys k ≡ Some x → find (is_above (Some x)) ys ≡ slice_get ys (suc k)
id_next ys k x up at = ap (λ o. find (is_above o) ys) (sym at) ∙ id_after ys k up (within ys k x at)

-- after a place without an element there is none
pub none_later : (ys : List (List ℕ)) (k n : ℕ) → k < n → slice_get ys k ≡ None → slice_get ys n ≡ None
none_later [] k n later none = refl
none_later (y ∷ ys) zero n later none = cc
none_later (y ∷ ys) (suc k) zero later none = absurd (omega arith)
none_later (y ∷ ys) (suc k) (suc n) later none = none_later ys k n (omega arith) none
