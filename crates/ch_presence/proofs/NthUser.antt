-- The users of a channel: which there are, and the one at a place.
use Rattle.std.proofs.Common.{◌≡◌, ℕ, zero, suc, ◌<◌, Bool, true, false, ◌&&◌, ◌||◌, cond, List, [], ◌∷◌, Option, Some, None, find, filter_map, map, length, slice_get, bytes_eq, option_map, option_and_then, refl, ap, ap₂, sym, ◌∙◌, arith}
use Rattle.std.specs.List.{list_any, list_all, cons_option}
use Rattle.std.specs.Option.{is_some}
use Rattle.ch_base.specs.declared.channel.Member.{Member}
use Rattle.ch_history.specs.Texts.{has_text}
use Rattle.ch_history.proofs.Lists.{both, list_any-map}
use Rattle.ch_history.proofs.Texts.{text_itself, has_text-ascending}
use Rattle.ch_presence.specs.declared.present.Present.{Present}
use Rattle.ch_presence.specs.Members.{present_on, members_on, ids_on, rows_on}
use Rattle.ch_presence.specs.Users.{users_of, infos_of}

-- Whether a user is there

pub has_text-ids_on : (rows : List Present) (c id : List ℕ) → has_text (ids_on rows c) id ≡ list_any (λ r. bytes_eq r.member.user_id id) (present_on rows c)
has_text-ids_on rows c id =
    has_text-ascending id (map (λ m. m.user_id) (members_on rows c))
    ∙ list_any-map (λ y. bytes_eq y id) (λ m. m.user_id) (members_on rows c)
    ∙ list_any-map (λ m. bytes_eq m.user_id id) (λ r. r.member) (present_on rows c)

-- The user at a place

-- the first row of a user has its first member
pub find_members : (id : List ℕ) (rows : List Present) → find (λ m. bytes_eq m.user_id id) (map (λ r. r.member) rows) ≡ option_map (λ r. r.member) (find (λ r. bytes_eq r.member.user_id id) rows)
find_members id [] = refl
find_members id (r ∷ rows) =
    elim (bytes_eq r.member.user_id id) as (λ b. cond b (Some r.member) (find (λ m. bytes_eq m.user_id id) (map (λ r. r.member) rows)) ≡ option_map (λ r. r.member) (cond b (Some r) (find (λ r. bytes_eq r.member.user_id id) rows))) [
      | true ↦ refl
      | false ↦ find_members id rows
    ]

-- a user that is there is found
found : (id : List ℕ) (ms : List Member) → list_any (λ m. bytes_eq m.user_id id) ms ≡ true → is_some (find (λ m. bytes_eq m.user_id id) ms) ≡ true
found id [] any = cc
found id (m ∷ ms) any =
    (elim (bytes_eq m.user_id id) as (λ b. (b || list_any (λ m. bytes_eq m.user_id id) ms) ≡ true → is_some (cond b (Some m) (find (λ m. bytes_eq m.user_id id) ms)) ≡ true) [
      | true ↦ (λ h. refl)
      | false ↦ (λ h. found id ms h)
    ]) any

or-true : (b : Bool) → (b || true) ≡ true
or-true true = refl
or-true false = refl

-- what holds of each text of a list
all_there : (p : List ℕ → Bool) (xs : List (List ℕ)) → ((x : List ℕ) → has_text xs x ≡ true → p x ≡ true) → list_all p xs ≡ true
all_there p [] each = refl
all_there p (x ∷ xs) each =
    ap₂ ◌&&◌ (each x (ap (λ b. b || has_text xs x) (text_itself x)))
    (all_there p xs (λ y there. each y (ap (λ b. bytes_eq x y || b) there ∙ or-true (bytes_eq x y))))

-- where f gives something of each, the places stay
next_place : {X Y : Type 0} (f : X → Option Y) (x : X) (xs : List X) (k : ℕ) → is_some (f x) ≡ true → slice_get (filter_map f (x ∷ xs)) (suc k) ≡ slice_get (filter_map f xs) k
next_place f x xs k some =
    (elim (f x) as (λ o. is_some o ≡ true → slice_get (cons_option o (filter_map f xs)) (suc k) ≡ slice_get (filter_map f xs) k) [
      | None ↦ (λ none. cc)
      | Some y ↦ (λ is. refl)
    ]) some

first_place : {X Y : Type 0} (f : X → Option Y) (x : X) (xs : List X) → is_some (f x) ≡ true → slice_get (filter_map f (x ∷ xs)) 0 ≡ f x
first_place f x xs some =
    (elim (f x) as (λ o. is_some o ≡ true → slice_get (cons_option o (filter_map f xs)) 0 ≡ o) [
      | None ↦ (λ none. cc)
      | Some y ↦ (λ is. refl)
    ]) some

slice_get-filter_map : {X Y : Type 0} (f : X → Option Y) (xs : List X) (k : ℕ) → list_all (λ x. is_some (f x)) xs ≡ true → slice_get (filter_map f xs) k ≡ option_and_then f (slice_get xs k)
slice_get-filter_map f [] k all = refl
slice_get-filter_map f (x ∷ xs) zero all = first_place f x xs (both (is_some (f x)) (list_all (λ x. is_some (f x)) xs) all).0
slice_get-filter_map f (x ∷ xs) (suc k) all =
    let parts = both (is_some (f x)) (list_all (λ x. is_some (f x)) xs) all in
    next_place f x xs k parts.0 ∙ slice_get-filter_map f xs k parts.1

-- each id that is there is of a member
all_found : (ms : List Member) → list_all (λ id. is_some (find (λ m. bytes_eq m.user_id id) ms)) (users_of ms) ≡ true
all_found ms =
    all_there (λ id. is_some (find (λ m. bytes_eq m.user_id id) ms)) (users_of ms)
    (λ id there. found id ms
    (sym (list_any-map (λ y. bytes_eq y id) (λ m. m.user_id) ms) ∙ sym (has_text-ascending id (map (λ m. m.user_id) ms)) ∙ there))

pub slice_get-infos_of : (ms : List Member) (k : ℕ) → slice_get (infos_of ms) k ≡ option_and_then (λ id. find (λ m. bytes_eq m.user_id id) ms) (slice_get (users_of ms) k)
slice_get-infos_of ms k = slice_get-filter_map (λ id. find (λ m. bytes_eq m.user_id id) ms) (users_of ms) k (all_found ms)

pub slice_get-rows_on : (rows : List Present) (c : List ℕ) (k : ℕ) → slice_get (rows_on rows c) k ≡ option_and_then (λ id. find (λ m. bytes_eq m.user_id id) (members_on rows c)) (slice_get (ids_on rows c) k)
slice_get-rows_on rows c k = slice_get-infos_of (members_on rows c) k

-- there are as many of them as ids
length-filter_map : {X Y : Type 0} (f : X → Option Y) (xs : List X) → list_all (λ x. is_some (f x)) xs ≡ true → length (filter_map f xs) ≡ length xs
length-filter_map f [] all = refl
length-filter_map f (x ∷ xs) all =
    let parts = both (is_some (f x)) (list_all (λ x. is_some (f x)) xs) all in
    (elim (f x) as (λ o. is_some o ≡ true → length (cons_option o (filter_map f xs)) ≡ suc (length xs)) [
      | None ↦ (λ some. cc)
      | Some y ↦ (λ some. ap suc (length-filter_map f xs parts.1))
    ]) parts.0

some_at : {X : Type 0} (xs : List X) (k : ℕ) → k < length xs → slice_get xs k ≡ None → ⊥
some_at [] k inside none = omega arith
some_at (x ∷ xs) zero inside none = cc
some_at (x ∷ xs) (suc k) inside none = some_at xs k (omega arith) none

-- at a place within the ids there is a user
pub some_user : (rows : List Present) (c : List ℕ) (k : ℕ) → k < length (ids_on rows c) → slice_get (rows_on rows c) k ≡ None → ⊥
some_user rows c k inside none =
    let as_many : length (rows_on rows c) ≡ length (ids_on rows c) = length-filter_map (λ id. find (λ m. bytes_eq m.user_id id) (members_on rows c)) (ids_on rows c) (all_found (members_on rows c)) in
    some_at (rows_on rows c) k (omega (arith, as_many)) none
