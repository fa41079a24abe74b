-- The users of a channel, one after another.
use Rattle.std.proofs.Common.{◌≡◌, ℕ, zero, suc, ◌+◌, ◌<◌, ◌≤◌, Bool, true, false, cond, List, [], ◌∷◌, ◌++◌, Some, None, find, bytes_eq, length, slice_get, option_and_then, refl, ap, sym, ◌∙◌, arith}
use Rattle.ch_base.specs.declared.channel.Member.{Member}
use Rattle.ch_history.proofs.Texts.{same_text}
use Rattle.ch_presence.specs.declared.present.Present.{Present}
use Rattle.ch_presence.specs.Members.{members_on, ids_on, rows_on}
use Rattle.ch_presence.proofs.NthUser.{slice_get-rows_on}

found_passes : {X : Type 0} (p : X → Bool) (xs : List X) (x : X) → find p xs ≡ Some x → p x ≡ true
found_passes p [] x is = cc
found_passes p (y ∷ ys) x is =
    (elim (p y) as (λ b. p y ≡ b → cond b (Some y) (find p ys) ≡ Some x → p x ≡ true) [
      | true ↦ (λ passes h. let same : y ≡ x = cc in sym (ap p same) ∙ passes)
      | false ↦ (λ fails h. found_passes p ys x h)
    ]) refl is

-- the user with a place has the id with that place
pub id_at : (rows : List Present) (c : List ℕ) (k : ℕ) (m : Member) → slice_get (rows_on rows c) k ≡ Some m → slice_get (ids_on rows c) k ≡ Some m.user_id
id_at rows c k m is =
    let ms : List Member = members_on rows c in
    (elim (slice_get (ids_on rows c) k) as (λ o. option_and_then (λ id. find (λ m. bytes_eq m.user_id id) ms) o ≡ Some m → o ≡ Some m.user_id) [
      | None ↦ (λ h. cc)
      | Some id ↦ (λ h. ap (λ u. Some u) (sym (same_text m.user_id id (found_passes (λ m. bytes_eq m.user_id id) ms m h))))
    ]) (sym (slice_get-rows_on rows c k) ∙ is)

-- an element has a place before the end
pub inside : {X : Type 0} (xs : List X) (k : ℕ) (x : X) → slice_get xs k ≡ Some x → k < length xs
inside [] k x at = cc
inside (y ∷ xs) zero x at = omega arith
inside (y ∷ xs) (suc k) x at = let rest = inside xs k x at in omega (arith, rest)

-- a place without an element is behind the last one
pub behind : {X : Type 0} (xs : List X) (k : ℕ) → slice_get xs k ≡ None → length xs ≤ k
behind [] k none = omega arith
behind (y ∷ xs) zero none = cc
behind (y ∷ xs) (suc k) none = let rest = behind xs k none in omega (arith, rest)

pub length-push : {X : Type 0} (xs : List X) (x : X) → length (xs ++ x ∷ []) ≡ length xs + 1
length-push [] x = refl
length-push (y ∷ xs) x = let rest = length-push xs x in omega (arith, rest)
