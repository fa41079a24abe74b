-- Pieces of lists, and the batches that are made of them.
use Rattle.std.proofs.Common.{◌≡◌, ℕ, ◌+◌, ◌-◌, ◌≤◌, min, length, take, drop, List, [], ◌∷◌, ◌++◌, map, arith, refl, ap, ap₂, sym, ◌∙◌, length-drop, zero-add}
use Rattle.std.specs.List.{range_with_len}
use Rattle.std.proofs.lemmas.List.{take_min}
use Rattle.std.proofs.lemmas.List.FromFn.{map-range_with_len_more}

-- what is left of a list from a place on, up to 50 elements
pub piece_cut : {A : Type 0} (xs : List A) (from to : ℕ) → to ≡ min (length xs) (from + 50) → take (to - from) (drop from xs) ≡ take 50 (drop from xs)
piece_cut xs from to is =
    let size : to - from ≡ min 50 (length (drop from xs)) = omega (arith, length-drop from xs) in
    ap (λ n. take n (drop from xs)) size ∙ take_min 50 (drop from xs)

-- one more of what is made by number
pub one_more : {A : Type 0} (f : ℕ → A) (xs more : List A) (x : A) (k : ℕ) → more ≡ xs ++ x ∷ [] → xs ≡ map f (range_with_len 0 k) → x ≡ f k → more ≡ map f (range_with_len 0 (k + 1))
one_more f xs more x k added so_far is =
    added ∙ ap₂ (λ ys y. ys ++ y ∷ []) so_far is ∙ sym (map-range_with_len_more f 0 k k (zero-add k))

pub map_twice : {A B C : Type 0} (g : B → C) (h : A → B) (xs : List A) → map (λ x. g (h x)) xs ≡ map g (map h xs)
map_twice g h [] = refl
map_twice g h (x ∷ xs) = ap (λ ys. g (h x) ∷ ys) (map_twice g h xs)

-- all that is made by number
pub all_made : {A B : Type 0} (g : A → B) (h : ℕ → A) (xs : List B) (k n : ℕ) → xs ≡ map (λ i. g (h i)) (range_with_len 0 k) → k ≤ n → n ≤ k → xs ≡ map g (map h (range_with_len 0 n))
all_made g h xs k n so_far low high =
    let same : k ≡ n = omega arith in
    so_far ∙ ap (λ m. map (λ i. g (h i)) (range_with_len 0 m)) same ∙ map_twice g h (range_with_len 0 n)
