-- Pieces that were made one by one, joined.
use Rattle.std.proofs.Common.{◌≡◌, ℕ, List, [], ◌∷◌, ◌++◌, refl, map}
use Rattle.std.specs.List.{join_by, flat_map}

-- the same for all pieces behind the first
rest : {X Y : Type 0} (f : X → List ℕ) (g : Y → List ℕ) (sep : List ℕ) (xs : List X) (ys : List Y) → map f xs ≡ map g ys → flat_map (λ x. sep ++ f x) xs ≡ flat_map (λ y. sep ++ g y) ys
rest f g sep [] [] same = refl
rest f g sep [] (y ∷ ys) same = cc
rest f g sep (x ∷ xs) [] same = cc
rest f g sep (x ∷ xs) (y ∷ ys) same =
    let first : f x ≡ g y = cc in
    let others : map f xs ≡ map g ys = cc in
    let joined = rest f g sep xs ys others in
    cc

-- they join to the same as what they were made of
pub join_by-pieces : {X Y : Type 0} (f : X → List ℕ) (g : Y → List ℕ) (sep : List ℕ) (xs : List X) (ys : List Y) → map f xs ≡ map g ys → join_by f sep xs ≡ join_by g sep ys
join_by-pieces f g sep [] [] same = refl
join_by-pieces f g sep [] (y ∷ ys) same = cc
join_by-pieces f g sep (x ∷ xs) [] same = cc
join_by-pieces f g sep (x ∷ xs) (y ∷ ys) same =
    let first : f x ≡ g y = cc in
    let others : map f xs ≡ map g ys = cc in
    let joined = rest f g sep xs ys others in
    cc
