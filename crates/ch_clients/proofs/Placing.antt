-- What becomes of the client at a place.
use Rattle.std.proofs.Common.{◌≡◌, ◌<◌, ◌+◌, ℕ, suc, List, [], ◌∷◌, ◌++◌, arith, length, map, ap, sym, subst, refl, ◌∙◌, length-append}
use Rattle.std.specs.Prelude.{Some, slice_get, slice_set, slice_index_or, All}
use Rattle.std.specs.List.{insert, remove}
use Rattle.std.proofs.lemmas.List.Elements.{All-tail}
use Rattle.std.proofs.lemmas.Option.{slice_get_read}
use Rattle.ch_clients.specs.Passes.{replaced}
use Rattle.ch_clients.proofs.Edits.{split_at, set_split, get_split, remove_split, insert_split, all_left, all_right, all_both}
use Rattle.ch_clients.proofs.Passing.{replaced_split}

module _ {A : Type 0} where
  some_same : (x y : A) → Some x ≡ Some y → x ≡ y
  some_same x y e = cc

  -- ---- the element at a place

  -- it is the one that is read there
  pub is_there : (xs seen : List A) (at : ℕ) (x : A) → xs ≡ seen → at < length seen → x ≡ slice_index_or xs at x → slice_get xs at ≡ Some x
  is_there xs seen at x same lt is = slice_get_read xs (length xs) at x refl (subst (λ ys. at < length ys) (sym same) lt) is

  pub one_there : (xs : List A) (at : ℕ) (x y : A) → slice_get xs at ≡ Some x → slice_get xs at ≡ Some y → x ≡ y
  one_there xs at x y here there = some_same x y (sym here ∙ there)

  pub at_place : (xs : List A) (at : ℕ) → at < length xs → (x : A) × (slice_get xs at ≡ Some x)
  at_place xs at lt =
      let s = split_at xs at lt in
      (s.here, ap (λ k. slice_get xs k) s.place ∙ ap (λ zs. slice_get zs (length s.front)) s.is ∙ get_split s.front s.here s.rest)

  pub set_there : (xs : List A) (at : ℕ) (y : A) → at < length xs → slice_get (slice_set xs at y) at ≡ Some y
  set_there xs at y lt =
      let s = split_at xs at lt in
      ap (λ k. slice_get (slice_set xs k y) k) s.place
      ∙ ap (λ zs. slice_get (slice_set zs (length s.front) y) (length s.front)) s.is
      ∙ ap (λ zs. slice_get zs (length s.front)) (set_split s.front s.here y s.rest) ∙ get_split s.front y s.rest

  -- ---- others in its place

  split_replaced : (xs front : List A) (x : A) (rest : List A) (at : ℕ) (these : List A) → xs ≡ front ++ x ∷ rest → at ≡ length front
      → replaced at these xs ≡ front ++ (these ++ rest)
  split_replaced xs front x rest at these is place =
      ap (λ k. replaced k these xs) place ∙ ap (λ zs. replaced (length front) these zs) is ∙ replaced_split front these x rest

  -- whom it was set to before doesn't matter
  pub replaced_set : (xs : List A) (at : ℕ) (y : A) (these : List A) → at < length xs → replaced at these (slice_set xs at y) ≡ replaced at these xs
  replaced_set xs at y these lt =
      let s = split_at xs at lt in
      split_replaced (slice_set xs at y) s.front y s.rest at these
      (ap (λ k. slice_set xs k y) s.place ∙ ap (λ zs. slice_set zs (length s.front) y) s.is ∙ set_split s.front s.here y s.rest) s.place
      ∙ sym (split_replaced xs s.front s.here s.rest at these s.is s.place)

  pub length_replaced : (xs : List A) (at : ℕ) (these : List A) → at < length xs → suc (length (replaced at these xs)) ≡ length xs + length these
  length_replaced xs at these lt =
      let s = split_at xs at lt in
      omega (arith, ap length (split_replaced xs s.front s.here s.rest at these s.is s.place), ap length s.is, length-append s.front (these ++ s.rest), length-append these s.rest, length-append s.front (s.here ∷ s.rest))

  -- itself
  pub replaced_same : (xs : List A) (at : ℕ) (x : A) → at < length xs → slice_get xs at ≡ Some x → xs ≡ replaced at (x ∷ []) xs
  replaced_same xs at x lt there =
      let s = split_at xs at lt in
      let e = one_there xs at s.here x (ap (λ k. slice_get xs k) s.place ∙ ap (λ zs. slice_get zs (length s.front)) s.is ∙ get_split s.front s.here s.rest) there in
      s.is ∙ ap (λ z. s.front ++ z ∷ s.rest) e ∙ sym (split_replaced xs s.front s.here s.rest at (x ∷ []) s.is s.place)

  -- none
  pub removed : (xs : List A) (at : ℕ) → at < length xs → remove xs at ≡ replaced at [] xs
  removed xs at lt =
      let s = split_at xs at lt in
      ap (λ k. remove xs k) s.place ∙ ap (λ zs. remove zs (length s.front)) s.is ∙ remove_split s.front s.here s.rest
      ∙ sym (split_replaced xs s.front s.here s.rest at [] s.is s.place)

  -- another
  pub put_back : (xs : List A) (at : ℕ) (y : A) → at < length xs → insert (remove xs at) at y ≡ slice_set xs at y
  put_back xs at y lt =
      let s = split_at xs at lt in
      ap (λ k. insert (remove xs k) k y) s.place ∙ ap (λ zs. insert (remove zs (length s.front)) (length s.front) y) s.is
      ∙ ap (λ zs. insert zs (length s.front) y) (remove_split s.front s.here s.rest) ∙ insert_split s.front y s.rest
      ∙ sym (ap (λ k. slice_set xs k y) s.place ∙ ap (λ zs. slice_set zs (length s.front) y) s.is ∙ set_split s.front s.here y s.rest)

  pub replaced_one : (xs : List A) (at : ℕ) (y : A) → at < length xs → slice_set xs at y ≡ replaced at (y ∷ []) xs
  replaced_one xs at y lt =
      let s = split_at xs at lt in
      ap (λ k. slice_set xs k y) s.place ∙ ap (λ zs. slice_set zs (length s.front) y) s.is ∙ set_split s.front s.here y s.rest
      ∙ sym (split_replaced xs s.front s.here s.rest at (y ∷ []) s.is s.place)

  -- ---- a fact of each element

  module _ (P : A → Type 0) where
    pub all_removed : (xs : List A) (at : ℕ) → at < length xs → All P xs → All P (remove xs at)
    all_removed xs at lt all =
        let s = split_at xs at lt in
        let split = subst (All P) s.is all in
        subst (All P) (sym (ap (λ k. remove xs k) s.place ∙ ap (λ zs. remove zs (length s.front)) s.is ∙ remove_split s.front s.here s.rest))
        (all_both P s.front s.rest (all_left P s.front (s.here ∷ s.rest) split) (All-tail P s.here s.rest (all_right P s.front (s.here ∷ s.rest) split)))

    pub remove_set : (xs : List A) (at : ℕ) (y : A) → at < length xs → All P (remove xs at) → All P (remove (slice_set xs at y) at)
    remove_set xs at y lt all =
        let s = split_at xs at lt in
        let e : remove (slice_set xs at y) at ≡ remove xs at =
        ap (λ k. remove (slice_set xs k y) k) s.place ∙ ap (λ zs. remove (slice_set zs (length s.front) y) (length s.front)) s.is
        ∙ ap (λ zs. remove zs (length s.front)) (set_split s.front s.here y s.rest) ∙ remove_split s.front y s.rest
        ∙ sym (ap (λ k. remove xs k) s.place ∙ ap (λ zs. remove zs (length s.front)) s.is ∙ remove_split s.front s.here s.rest) in
        subst (All P) (sym e) all

    -- of the others, and of those in the place of one
    pub all_replaced : (xs : List A) (at : ℕ) (these : List A) → at < length xs → All P (remove xs at) → All P these → All P (replaced at these xs)
    all_replaced xs at these lt others all =
        let s = split_at xs at lt in
        let split = subst (All P) (ap (λ k. remove xs k) s.place ∙ ap (λ zs. remove zs (length s.front)) s.is ∙ remove_split s.front s.here s.rest) others in
        subst (All P) (sym (split_replaced xs s.front s.here s.rest at these s.is s.place))
        (all_both P s.front (these ++ s.rest) (all_left P s.front s.rest split) (all_both P these s.rest all (all_right P s.front s.rest split)))

module _ {A B : Type 0} (f : A → B) where
  length_map : (xs : List A) → length (map f xs) ≡ length xs
  length_map [] = refl
  length_map (x ∷ xs) = ap suc (length_map xs)

  -- the same of a list that is seen through f
  pub row_there : (xs : List A) (seen : List B) (at : ℕ) (x : A) → map f xs ≡ seen → at < length seen → x ≡ slice_index_or xs at x → slice_get xs at ≡ Some x
  row_there xs seen at x is lt read = is_there xs xs at x refl (omega (arith, lt, ap length is, length_map xs)) read
