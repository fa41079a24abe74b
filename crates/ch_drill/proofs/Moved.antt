-- Elements that are moved from one list to another, one at a time.
use Rattle.std.proofs.Common.{◌≡◌, List, [], ◌∷◌, ◌++◌, map, ap, sym, ◌∙◌, append_assoc}

module _ {X Y : Type 0} (f : X → Y) where
  -- what f makes of a list with one more at its end
  map_more : (xs : List X) (x : X) → map f (xs ++ x ∷ []) ≡ map f xs ++ f x ∷ []
  map_more [] x = λ i. f x ∷ []
  map_more (z ∷ zs) x = ap (λ l. f z ∷ l) (map_more zs x)

  -- what f makes of those that are there, and then those that are left
  pub map_gains : (xs now : List X) (x : X) (left rest all : List Y) (y : Y) → now ≡ xs ++ x ∷ [] → left ≡ y ∷ rest → f x ≡ y → map f xs ++ left ≡ all → map f now ++ rest ≡ all
  map_gains xs now x left rest all y is left_is same sum =
      ap (λ l. map f l ++ rest) is ∙ (ap (λ l. l ++ rest) (map_more xs x) ∙ (append_assoc (map f xs) (f x ∷ []) rest
      ∙ (ap (λ z. map f xs ++ z ∷ rest) same ∙ (ap (λ l. map f xs ++ l) (sym left_is) ∙ sum))))

  -- those that are there, and then what f makes of those that are left
  pub gains_map : (ys now : List Y) (y : Y) (left rest : List X) (all : List Y) (x : X) → now ≡ ys ++ y ∷ [] → left ≡ x ∷ rest → y ≡ f x → ys ++ map f left ≡ all → now ++ map f rest ≡ all
  gains_map ys now y left rest all x is left_is same sum =
      ap (λ l. l ++ map f rest) is ∙ (append_assoc ys (y ∷ []) (map f rest)
      ∙ (ap (λ z. ys ++ z ∷ map f rest) same ∙ (ap (λ l. ys ++ map f l) (sym left_is) ∙ sum)))
