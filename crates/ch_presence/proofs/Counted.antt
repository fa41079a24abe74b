-- The number of a channel's users.
use Rattle.std.proofs.Common.{◌≡◌, ℕ, zero, suc, ◌≤◌, true, false, cond, List, [], ◌∷◌, None, length, map, slice_get, refl, ap, arith}
use Rattle.ch_history.specs.Texts.{is_before, has_text, place, sorted, each_once, ascending}
use Rattle.ch_presence.specs.declared.present.Present.{Present}
use Rattle.ch_presence.specs.Members.{present_on, members_on, ids_on}

length-place : (x : List ℕ) (ys : List (List ℕ)) → length (place x ys) ≡ suc (length ys)
length-place x [] = refl
length-place x (y ∷ ys) =
    elim (is_before x y) as (λ b. length (cond b (x ∷ y ∷ ys) (y ∷ place x ys)) ≡ suc (suc (length ys))) [
      | true ↦ refl
      | false ↦ ap suc (length-place x ys)
    ]

length-ascending : (xs : List (List ℕ)) → length (ascending xs) ≤ length xs
length-ascending [] = omega arith
length-ascending (x ∷ xs) =
    let rest = length-ascending xs in
    let more = length-place x (ascending xs) in
    elim (has_text xs x) as (λ b. length (sorted (cond b (each_once xs) (x ∷ each_once xs))) ≤ suc (length xs)) [
      | true ↦ omega (arith, rest)
      | false ↦ omega (arith, rest, more)
    ]

length-ids : (rows : List Present) → length (map (λ m. m.user_id) (map (λ r. r.member) rows)) ≡ length rows
length-ids [] = refl
length-ids (r ∷ rows) = ap suc (length-ids rows)

-- there are no more users than rows
pub users_within : (rows : List Present) (c : List ℕ) → length (ids_on rows c) ≤ length (present_on rows c)
users_within rows c =
    let fewer = length-ascending (map (λ m. m.user_id) (members_on rows c)) in
    let same = length-ids (present_on rows c) in
    omega (arith, fewer, same)

-- a place without an element is behind the last one
pub none_at : {X : Type 0} (ys : List X) (k : ℕ) → slice_get ys k ≡ None → length ys ≤ k
none_at [] k none = omega arith
none_at (y ∷ ys) zero none = cc
none_at (y ∷ ys) (suc k) none = let rest = none_at ys k none in omega (arith, rest)
