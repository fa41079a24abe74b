-- The names of channels, one after another.
use Rattle.std.proofs.Common.{◌≡◌, ℕ, zero, suc, ◌+◌, ◌≤◌, Bool, true, false, cond, List, [], ◌∷◌, ◌++◌, Some, None, filter, map, find, length, slice_get, take, refl, ap, sym, ◌∙◌, arith}
use Rattle.std.specs.Prelude.{option_to_list}
use Rattle.std.proofs.lemmas.List.{map-append, take_all}
use Rattle.std.proofs.lemmas.List.Elements.{filter-append}
use Rattle.std.proofs.lemmas.Option.{slice_get_within}
use Rattle.ch_base.specs.declared.channel.NameRow.{NameRow}
use Rattle.ch_history.specs.declared.rows.Subscription.{Subscription}
use Rattle.ch_history.specs.Texts.{is_before, has_text, each_once, place, sorted, ascending}
use Rattle.ch_history.proofs.Ascending.{IsAscending}
use Rattle.ch_subs.specs.Names.{is_above, names}
use Rattle.ch_subs.proofs.LeastName.{name_after}
use Rattle.ch_shard.specs.Naming.{following}

none_next : (ys : List (List ℕ)) (k : ℕ) → slice_get ys k ≡ None → slice_get ys (suc k) ≡ None
none_next [] k none = refl
none_next (y ∷ ys) zero none = cc
none_next (y ∷ ys) (suc k) none = none_next ys k none

-- the name after the one with a place has the next place
pub following-next : (ys : List (List ℕ)) (k : ℕ) → IsAscending ys → following ys (slice_get ys k) ≡ slice_get ys (k + 1)
following-next ys k up =
    let next : k + 1 ≡ suc k = omega arith in
    (elim (slice_get ys k) as (λ o. slice_get ys k ≡ o → following ys o ≡ slice_get ys (suc k)) [
      | None ↦ (λ none. sym (none_next ys k none))
      | Some c ↦ (λ is. ap (λ o. find (is_above o) ys) (sym is) ∙ name_after ys k up (slice_get_within ys k c is))
    ]) refl
    ∙ sym (ap (slice_get ys) next)

more : (ys : List (List ℕ)) (k : ℕ) → take (suc k) ys ≡ take k ys ++ option_to_list (slice_get ys k)
more [] zero = refl
more [] (suc k) = refl
more (y ∷ ys) zero = refl
more (y ∷ ys) (suc k) = ap (λ zs. y ∷ zs) (more ys k)

-- the rows of the names that pass, with the next one
pub rows-next : (f : List ℕ → NameRow) (p : List ℕ → Bool) (ys : List (List ℕ)) (k : ℕ)
    → map f (filter p (take k ys)) ++ map f (filter p (option_to_list (slice_get ys k))) ≡ map f (filter p (take (k + 1) ys))
rows-next f p ys k =
    let next : k + 1 ≡ suc k = omega arith in
    sym (ap (λ n. map f (filter p (take n ys))) next
    ∙ ap (λ zs. map f (filter p zs)) (more ys k)
    ∙ ap (map f) (filter-append p (take k ys) (option_to_list (slice_get ys k)))
    ∙ map-append f (filter p (take k ys)) (filter p (option_to_list (slice_get ys k))))

-- there are no more names than subscriptions

length-place : (x : List ℕ) (ys : List (List ℕ)) → length (place x ys) ≡ suc (length ys)
length-place x [] = refl
length-place x (y ∷ ys) =
    elim (is_before x y) as (λ b. length (cond b (x ∷ y ∷ ys) (y ∷ place x ys)) ≡ suc (suc (length ys))) [
      | true ↦ refl
      | false ↦ ap suc (length-place x ys)
    ]

length-ascending : (xs : List (List ℕ)) → length (ascending xs) ≤ length xs
length-ascending [] = omega arith
length-ascending (x ∷ xs) =
    let rest = length-ascending xs in
    elim (has_text xs x) as (λ b. length (sorted (cond b (each_once xs) (x ∷ each_once xs))) ≤ suc (length xs)) [
      | true ↦ omega arith
      | false ↦ omega (arith, length-place x (ascending xs))
    ]

length-channels : (xs : List Subscription) → length (map (λ s. s.channel) xs) ≡ length xs
length-channels [] = refl
length-channels (x ∷ xs) = ap suc (length-channels xs)

-- so as many places as subscriptions show all names
pub all_names : (xs : List Subscription) (n : ℕ) → length xs ≤ n → take n (names xs) ≡ names xs
all_names xs n enough =
    take_all n (names xs) (omega (arith, length-ascending (map (λ s. s.channel) xs), length-channels xs))
