-- Texts, each at its first place alone.
use Rattle.std.proofs.Common.{◌≡◌, ℕ, List, [], ◌∷◌, ◌++◌, append-nil, Bool, true, false, not, cond, refl, sym, ap, ◌∙◌}
use Rattle.std.specs.Prelude.{filter, bytes_eq, ◌||◌}
use Rattle.std.specs.List.{list_any}
use Rattle.std.specs.Cmp.Lexicographic.{same_text, other_text}
use Rattle.std.proofs.lemmas.List.Elements.{filter-append}
use Rattle.ch_base.specs.FirstPlaces.{first_places}

-- whether the text is in the list
pub has : List ℕ → List (List ℕ) → Bool
has x xs = list_any (λ y. bytes_eq y x) xs

unless : List ℕ → List (List ℕ) → List (List ℕ)
unless x xs = filter (λ y. not (bytes_eq y x)) xs

same_back : (z x : List ℕ) → true ≡ bytes_eq z x → bytes_eq x z ≡ true
same_back z x e = test (bytes_eq x z) refl
  where
    test : (b : Bool) → b ≡ bytes_eq x z → b ≡ true
    test true f = refl
    test false f = absurd (other_text x z f (sym (same_text z x e)))

other_back : (z x : List ℕ) → false ≡ bytes_eq z x → bytes_eq x z ≡ false
other_back z x e = test (bytes_eq x z) refl
  where
    test : (b : Bool) → b ≡ bytes_eq x z → b ≡ false
    test true f = absurd (other_text z x e (sym (same_text x z f)))
    test false f = refl

-- a text apart from z stays where the z are dropped
has_unless : (x z : List ℕ) (xs : List (List ℕ)) → bytes_eq z x ≡ false → has x (unless z xs) ≡ has x xs
unfolding has unless
has_unless x z [] e = refl
has_unless x z (y ∷ xs) e = test (bytes_eq y z) refl (has_unless x z xs e)
  where
    test : (b : Bool) → b ≡ bytes_eq y z → has x (unless z xs) ≡ has x xs → list_any (λ k. bytes_eq k x) (cond (not b) (y ∷ filter (λ k. not (bytes_eq k z)) xs) (filter (λ k. not (bytes_eq k z)) xs)) ≡ (bytes_eq y x || list_any (λ k. bytes_eq k x) xs)
    test true f more =
        let same : y ≡ z = same_text y z f in
        let other : bytes_eq y x ≡ false = ap (λ (k : List ℕ). bytes_eq k x) same ∙ e in
        more ∙ ap (λ b. b || list_any (λ k. bytes_eq k x) xs) (sym other)
    test false f more = ap (λ b. bytes_eq y x || b) more

-- the list with the text at its end, if it isn't there
pub with_new : List ℕ → List (List ℕ) → List (List ℕ)
with_new x xs = cond (has x xs) xs (xs ++ x ∷ [])

pub first_places_push : (x : List ℕ) (xs : List (List ℕ)) → first_places (xs ++ x ∷ []) ≡ with_new x (first_places xs)
unfolding has unless with_new
first_places_push x [] = refl
first_places_push x (z ∷ xs) = ap (λ (l : List (List ℕ)). z ∷ unless z l) (first_places_push x xs) ∙ test (bytes_eq z x) refl (has x (first_places xs)) refl
  where
    rest : List (List ℕ)
    rest = first_places xs

    test : (b : Bool) → b ≡ bytes_eq z x → (h : Bool) → h ≡ has x rest → z ∷ unless z (cond h rest (rest ++ x ∷ [])) ≡ cond (b || has x (unless z rest)) (z ∷ unless z rest) ((z ∷ unless z rest) ++ x ∷ [])
    test true e true f = refl
    test true e false f =
        let gone : unless z (x ∷ []) ≡ [] = ap (λ b. cond (not b) (x ∷ []) []) (same_back z x e) in
        ap (λ (l : List (List ℕ)). z ∷ l) (filter-append (λ y. not (bytes_eq y z)) rest (x ∷ []) ∙ ap (λ (l : List (List ℕ)). unless z rest ++ l) gone ∙ append-nil (unless z rest))
    test false e true f = ap (λ b. cond b (z ∷ unless z rest) ((z ∷ unless z rest) ++ x ∷ [])) (f ∙ sym (has_unless x z rest (sym e)))
    test false e false f =
        let stays : unless z (x ∷ []) ≡ x ∷ [] = ap (λ b. cond (not b) (x ∷ []) []) (other_back z x e) in
        ap (λ (l : List (List ℕ)). z ∷ l) (filter-append (λ y. not (bytes_eq y z)) rest (x ∷ []) ∙ ap (λ (l : List (List ℕ)). unless z rest ++ l) stays)
        ∙ ap (λ b. cond b (z ∷ unless z rest) ((z ∷ unless z rest) ++ x ∷ [])) (f ∙ sym (has_unless x z rest (sym e)))

-- whether the text is new decides what stands after it
pub is_new : (x : List ℕ) (xs : List (List ℕ)) (found : Bool) → found ≡ list_any (λ y. bytes_eq y x) xs → found ≡ false → with_new x xs ≡ xs ++ x ∷ []
unfolding has with_new
is_new x xs found e f = ap (λ b. cond b xs (xs ++ x ∷ [])) (sym e ∙ f)

pub is_there : (x : List ℕ) (xs : List (List ℕ)) (found : Bool) → found ≡ list_any (λ y. bytes_eq y x) xs → found ≡ true → with_new x xs ≡ xs
unfolding has with_new
is_there x xs found e f = ap (λ b. cond b xs (xs ++ x ∷ [])) (sym e ∙ f)
