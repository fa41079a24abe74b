-- Things that are done one after another.
use Rattle.std.proofs.Common.{◌≡◌, List, [], ◌∷◌, ◌++◌, ap, subst, refl, ◌∙◌}
use Rattle.std.specs.Prelude.{map}
use Rattle.ch_clients.specs.InTurn.{InTurn}

module _ {A B S : Type 0} (P : A → B → S → S → Type 0) where
  -- one alone
  pub in_turn_one : (x : A) (y : B) (a b : S) → P x y a b → InTurn P (x ∷ []) (y ∷ []) a b
  in_turn_one x y a b here = (b, here, refl)

  -- two runs after one another
  pub in_turn_then : (xs : List A) (ys : List B) (more : List A) (others : List B) (a b c : S) → InTurn P xs ys a b → InTurn P more others b c
      → InTurn P (xs ++ more) (ys ++ others) a c
  in_turn_then [] [] more others a b c same rest = subst (λ d. InTurn P more others d c) same rest
  in_turn_then (x ∷ xs) (y ∷ ys) more others a b c (d, here, there) rest = (d, here, in_turn_then xs ys more others d b c there rest)
  in_turn_then [] (y ∷ ys) more others a b c never rest = absurd never
  in_turn_then (x ∷ xs) [] more others a b c never rest = absurd never

  -- one more at the end
  pub in_turn_push : (xs : List A) (ys : List B) (x : A) (y : B) (a b c : S) → InTurn P xs ys a b → P x y b c
      → InTurn P (xs ++ x ∷ []) (ys ++ y ∷ []) a c
  in_turn_push xs ys x y a b c before here = in_turn_then xs ys (x ∷ []) (y ∷ []) a b c before (in_turn_one x y b c here)

  -- what each comes to tells what was there
  pub in_turn_map : (f : B → A) → ((x : A) (y : B) (a b : S) → P x y a b → f y ≡ x)
      → (xs : List A) (ys : List B) (a c : S) → InTurn P xs ys a c → map f ys ≡ xs
  in_turn_map f one [] [] a c same = refl
  in_turn_map f one (x ∷ xs) (y ∷ ys) a c (b, here, rest) =
      ap (λ z. z ∷ map f ys) (one x y a b here) ∙ ap (λ zs. x ∷ zs) (in_turn_map f one xs ys b c rest)
  in_turn_map f one [] (y ∷ ys) a c never = absurd never
  in_turn_map f one (x ∷ xs) [] a c never = absurd never
