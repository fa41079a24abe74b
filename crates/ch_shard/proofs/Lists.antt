-- Lists that a loop goes through place by place.
use Rattle.std.proofs.Common.{◌≡◌, ℕ, zero, suc, ◌+◌, Bool, true, false, not, ◌||◌, cond, List, [], ◌∷◌, ◌++◌, Some, filter, flat_map, slice_get, take, refl, ap, ap₂, sym, ◌∙◌, append-nil, arith}
use Rattle.std.specs.List.{list_any}
use Rattle.std.proofs.lemmas.Grind.{flat_map-append}
use Rattle.ch_history.specs.OpenRows.{is_empty}

more : {X : Type 0} (xs : List X) (i : ℕ) (x : X) → slice_get xs i ≡ Some x → take (suc i) xs ≡ take i xs ++ x ∷ []
more [] i x is = cc
more (y ∷ ys) zero x is = let same : y ≡ x = cc in ap (λ z. z ∷ []) same
more (y ∷ ys) (suc i) x is = ap (λ zs. y ∷ zs) (more ys i x is)

-- a loop that goes on by one has one more element
pub take-next : {X : Type 0} (xs : List X) (i : ℕ) (x : X) → slice_get xs i ≡ Some x → take (i + 1) xs ≡ take i xs ++ x ∷ []
take-next xs i x is = let next : i + 1 ≡ suc i = omega arith in ap (λ n. take n xs) next ∙ more xs i x is

-- nothing is left where nothing passes
pub is_empty-filter : {X : Type 0} (p : X → Bool) (xs : List X) → is_empty (filter p xs) ≡ not (list_any p xs)
is_empty-filter p [] = refl
is_empty-filter p (x ∷ xs) =
    elim (p x) as (λ b. is_empty (cond b (x ∷ filter p xs) (filter p xs)) ≡ not (b || list_any p xs)) [
      | true ↦ refl
      | false ↦ is_empty-filter p xs
    ]

pub flat_map-same : {X Y : Type 0} (f g : X → List Y) (xs : List X) → ((x : X) → f x ≡ g x) → flat_map f xs ≡ flat_map g xs
flat_map-same f g [] same = refl
flat_map-same f g (x ∷ xs) same = ap₂ ◌++◌ (same x) (flat_map-same f g xs same)

-- one more part
pub flat_map-next : {X Y : Type 0} (f : X → List Y) (xs : List X) (i : ℕ) (x : X) → slice_get xs i ≡ Some x → flat_map f (take i xs) ++ f x ≡ flat_map f (take (i + 1) xs)
flat_map-next f xs i x is =
    sym (ap (flat_map f) (take-next xs i x is) ∙ flat_map-append f (take i xs) (x ∷ []) ∙ ap (λ ys. flat_map f (take i xs) ++ ys) (append-nil (f x)))
