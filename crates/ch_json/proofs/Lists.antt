-- An element of a list and of its map, and the front of a list.
use Rattle.std.proofs.Common.{◌≡◌, ℕ, zero, suc, ◌<◌, List, [], ◌∷◌, ◌++◌, length, take, drop, map, Some, refl, ap, arith}
use Rattle.std.specs.Prelude.{slice_get}

pub some_back : {X Y : Type 0} (f : X → Y) (xs : List X) (i : ℕ) (y : Y) → slice_get (map f xs) i ≡ Some y → (x : X) × (slice_get xs i ≡ Some x) × (f x ≡ y)
some_back f [] i y e = absurd (cc)
some_back f (x ∷ xs) zero y e = (x, refl, cc)
some_back f (x ∷ xs) (suc i) y e = some_back f xs i y e

pub some_on : {X Y : Type 0} (f : X → Y) (xs : List X) (i : ℕ) (x : X) → slice_get xs i ≡ Some x → slice_get (map f xs) i ≡ Some (f x)
some_on f [] i x e = absurd (cc)
some_on f (y ∷ xs) zero x e = let same : y ≡ x = cc in ap (λ z. Some (f z)) same
some_on f (y ∷ xs) (suc i) x e = some_on f xs i x e

pub inside_some : {X : Type 0} (xs : List X) (i : ℕ) → i < length xs → (x : X) × (slice_get xs i ≡ Some x)
inside_some [] i h = absurd (omega arith)
inside_some (x ∷ xs) zero h = (x, refl)
inside_some (x ∷ xs) (suc i) h = inside_some xs i (omega arith)

pub drop_front : (u m : List ℕ) → drop (length u) (u ++ m) ≡ m
drop_front [] m = refl
drop_front (x ∷ u) m = drop_front u m

pub take_front : (u m : List ℕ) → take (length u) (u ++ m) ≡ u
take_front [] m = refl
take_front (x ∷ u) m = ap (λ l. x ∷ l) (take_front u m)
