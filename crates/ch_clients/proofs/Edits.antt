-- Edits of a list at a place, told by what stands before it and behind it.
use Rattle.std.proofs.Common.{◌≡◌, ◌<◌, ℕ, zero, suc, List, [], ◌∷◌, ◌++◌, length, take, drop, map, ap, refl, arith}
use Rattle.std.specs.Prelude.{Some, slice_get, slice_set, All}
use Rattle.std.specs.List.{insert, remove}
use Rattle.std.proofs.Math.Seq.{set-append_seam}
use Rattle.std.proofs.lemmas.List.Elements.{All-cons, All-head, All-tail, All-nil}

module _ {A : Type 0} where
  -- ---- a list that is split at an element

  pub set_split : (front : List A) (x y : A) (rest : List A) → slice_set (front ++ x ∷ rest) (length front) y ≡ front ++ y ∷ rest
  set_split front x y rest = set-append_seam front x rest y

  pub take_split : (front rest : List A) → take (length front) (front ++ rest) ≡ front
  take_split [] rest = refl
  take_split (x ∷ front) rest = ap (λ xs. x ∷ xs) (take_split front rest)

  pub drop_split : (front : List A) (x : A) (rest : List A) → drop (suc (length front)) (front ++ x ∷ rest) ≡ rest
  drop_split [] x rest = refl
  drop_split (y ∷ front) x rest = drop_split front x rest

  drop_front : (front rest : List A) → drop (length front) (front ++ rest) ≡ rest
  drop_front [] rest = refl
  drop_front (y ∷ front) rest = drop_front front rest

  pub remove_split : (front : List A) (x : A) (rest : List A) → remove (front ++ x ∷ rest) (length front) ≡ front ++ rest
  remove_split front x rest = rw (take_split front (x ∷ rest), drop_split front x rest) refl

  pub insert_split : (front : List A) (x : A) (rest : List A) → insert (front ++ rest) (length front) x ≡ front ++ x ∷ rest
  insert_split front x rest = rw (take_split front rest, drop_front front rest) refl

  pub get_split : (front : List A) (x : A) (rest : List A) → slice_get (front ++ x ∷ rest) (length front) ≡ Some x
  get_split [] x rest = refl
  get_split (y ∷ front) x rest = get_split front x rest

  -- ---- where an element stands

  -- a list is split at each of its places
  pub record Split (xs : List A) (at : ℕ) : Type 0 where
    pub front : List A
    pub here : A
    pub rest : List A
    pub is : xs ≡ front ++ here ∷ rest
    pub place : at ≡ length front

  pub split_at : (xs : List A) (at : ℕ) → at < length xs → Split xs at
  split_at [] at small = absurd (omega arith)
  split_at (x ∷ xs) zero small = record { front = []; here = x; rest = xs; is = refl; place = refl }
  split_at (x ∷ xs) (suc at) small =
      let s = split_at xs at (omega (arith, small)) in
      record { front = x ∷ s.front; here = s.here; rest = s.rest; is = ap (λ ys. x ∷ ys) s.is; place = ap suc s.place }

  -- ---- a fact of each element

  module _ (P : A → Type 0) where
    pub all_left : (xs ys : List A) → All P (xs ++ ys) → All P xs
    all_left [] ys all = All-nil P
    all_left (x ∷ xs) ys all = All-cons P x xs (All-head P x (xs ++ ys) all) (all_left xs ys (All-tail P x (xs ++ ys) all))

    pub all_right : (xs ys : List A) → All P (xs ++ ys) → All P ys
    all_right [] ys all = all
    all_right (x ∷ xs) ys all = all_right xs ys (All-tail P x (xs ++ ys) all)

    pub all_both : (xs ys : List A) → All P xs → All P ys → All P (xs ++ ys)
    all_both [] ys here there = there
    all_both (x ∷ xs) ys here there = All-cons P x (xs ++ ys) (All-head P x xs here) (all_both xs ys (All-tail P x xs here) there)

module _ {A B : Type 0} (f : A → B) where
  pub map_set : (xs : List A) (at : ℕ) (x : A) → map f (slice_set xs at x) ≡ slice_set (map f xs) at (f x)
  map_set [] at x = refl
  map_set (y ∷ xs) zero x = refl
  map_set (y ∷ xs) (suc at) x = ap (λ ys. f y ∷ ys) (map_set xs at x)
