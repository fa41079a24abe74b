-- Texts in ascending order: which there are, and what a function makes of them that makes something of one text alone.
use Rattle.std.proofs.Common.{◌≡◌, ℕ, Bool, true, false, ◌||◌, cond, List, [], ◌∷◌, ◌++◌, flat_map, bytes_eq, refl, ap, ap₂, sym, ◌∙◌, subst, append-nil}
use Rattle.std.proofs.Math.Bool.{or_assoc, or_comm}
use Rattle.std.proofs.lemmas.Slice.Eq.{bytes_eq-Decides}
use Rattle.ch_history.specs.Texts.{has_text, each_once, place, sorted, ascending, is_before}

pub same_text : (x c : List ℕ) → bytes_eq x c ≡ true → x ≡ c
same_text x c is = (bytes_eq-Decides x c).0 is

pub text_itself : (c : List ℕ) → bytes_eq c c ≡ true
text_itself c = (bytes_eq-Decides c c).1 refl

pub other_text : (x c : List ℕ) → bytes_eq x c ≡ false → bytes_eq c x ≡ false
other_text x c is =
    (elim (bytes_eq c x) as (λ b. bytes_eq c x ≡ b → b ≡ false) [
      | true ↦ (λ h. let same : c ≡ x = same_text c x h in let again : bytes_eq x c ≡ true = (bytes_eq-Decides x c).1 (sym same) in cc)
      | false ↦ (λ h. refl)
    ]) refl

-- f makes nothing of a text other than c
abbrev pub OnlyOf : {A : Type 0} → (List ℕ → List A) → List ℕ → Type 0
OnlyOf f c = (d : List ℕ) → bytes_eq d c ≡ false → f d ≡ []

none_there : {A : Type 0} (f : List ℕ → List A) (c : List ℕ) → OnlyOf f c → (ys : List (List ℕ)) → has_text ys c ≡ false → flat_map f ys ≡ []
none_there f c only [] none = refl
none_there f c only (y ∷ ys) none =
    (elim (bytes_eq y c) as (λ b. bytes_eq y c ≡ b → (b || has_text ys c) ≡ false → f y ++ flat_map f ys ≡ []) [
      | true ↦ (λ is h. cc)
      | false ↦ (λ is h. ap₂ ◌++◌ (only y is) (none_there f c only ys h))
    ]) refl none

place_other : {A : Type 0} (f : List ℕ → List A) (x : List ℕ) → f x ≡ [] → (ys : List (List ℕ)) → flat_map f (place x ys) ≡ flat_map f ys
place_other f x nothing [] = ap (λ zs. zs ++ []) nothing
place_other f x nothing (y ∷ ys) =
    elim (is_before x y) as (λ b. flat_map f (cond b (x ∷ y ∷ ys) (y ∷ place x ys)) ≡ f y ++ flat_map f ys) [
      | true ↦ ap (λ zs. zs ++ (f y ++ flat_map f ys)) nothing
      | false ↦ ap (λ zs. f y ++ zs) (place_other f x nothing ys)
    ]

place_only : {A : Type 0} (f : List ℕ → List A) (x : List ℕ) (ys : List (List ℕ)) → OnlyOf f x → has_text ys x ≡ false → flat_map f (place x ys) ≡ f x
place_only f x [] only none = append-nil (f x)
place_only f x (y ∷ ys) only none =
    (elim (bytes_eq y x) as (λ b. bytes_eq y x ≡ b → (b || has_text ys x) ≡ false → flat_map f (cond (is_before x y) (x ∷ y ∷ ys) (y ∷ place x ys)) ≡ f x) [
      | true ↦ (λ is h. cc)
      | false ↦ (λ is h. elim (is_before x y) as (λ b. flat_map f (cond b (x ∷ y ∷ ys) (y ∷ place x ys)) ≡ f x) [
        | true ↦ ap (λ zs. f x ++ zs) (ap₂ ◌++◌ (only y is) (none_there f x only ys h)) ∙ append-nil (f x)
        | false ↦ ap₂ ◌++◌ (only y is) (place_only f x ys only h)
      ])
    ]) refl none

or-swap : (a b c : Bool) → (a || (b || c)) ≡ (b || (a || c))
or-swap a b c = sym (or_assoc a b c) ∙ ap (λ d. d || c) (or_comm a b) ∙ or_assoc b a c

pub has_text-place : (x c : List ℕ) (ys : List (List ℕ)) → has_text (place x ys) c ≡ (bytes_eq x c || has_text ys c)
has_text-place x c [] = refl
has_text-place x c (y ∷ ys) =
    elim (is_before x y) as (λ b. has_text (cond b (x ∷ y ∷ ys) (y ∷ place x ys)) c ≡ (bytes_eq x c || (bytes_eq y c || has_text ys c))) [
      | true ↦ refl
      | false ↦ ap (λ b. bytes_eq y c || b) (has_text-place x c ys) ∙ or-swap (bytes_eq y c) (bytes_eq x c) (has_text ys c)
    ]

-- a text that comes again
pub comes_again : (x c : List ℕ) (xs : List (List ℕ)) → has_text xs x ≡ true → (bytes_eq x c || has_text xs c) ≡ has_text xs c
comes_again x c xs again =
    (elim (bytes_eq x c) as (λ b. bytes_eq x c ≡ b → (b || has_text xs c) ≡ has_text xs c) [
      | true ↦ (λ is. sym again ∙ ap (has_text xs) (same_text x c is))
      | false ↦ (λ is. refl)
    ]) refl

-- the texts of a list, each once, ascending, are those of the list
pub has_text-ascending : (c : List ℕ) (xs : List (List ℕ)) → has_text (ascending xs) c ≡ has_text xs c
has_text-ascending c [] = refl
has_text-ascending c (x ∷ xs) =
    (elim (has_text xs x) as (λ b. has_text xs x ≡ b → has_text (sorted (cond b (each_once xs) (x ∷ each_once xs))) c ≡ (bytes_eq x c || has_text xs c)) [
      | true ↦ (λ is. has_text-ascending c xs ∙ sym (comes_again x c xs is))
      | false ↦ (λ is. has_text-place x c (ascending xs) ∙ ap (λ b. bytes_eq x c || b) (has_text-ascending c xs))
    ]) refl

-- of a text that is there f makes its part once
pub flat_map-ascending : {A : Type 0} (f : List ℕ → List A) (c : List ℕ) → OnlyOf f c → (xs : List (List ℕ)) → flat_map f (ascending xs) ≡ cond (has_text xs c) (f c) []
flat_map-ascending f c only [] = refl
flat_map-ascending f c only (x ∷ xs) =
    (elim (has_text xs x) as (λ b. has_text xs x ≡ b → flat_map f (sorted (cond b (each_once xs) (x ∷ each_once xs))) ≡ cond (bytes_eq x c || has_text xs c) (f c) []) [
      | true ↦ (λ is. flat_map-ascending f c only xs ∙ ap (λ b. cond b (f c) []) (sym (comes_again x c xs is)))
      | false ↦ (λ is. (elim (bytes_eq x c) as (λ b. bytes_eq x c ≡ b → flat_map f (place x (ascending xs)) ≡ cond (b || has_text xs c) (f c) []) [
        | true ↦ (λ here. let same : x ≡ c = same_text x c here in
            let alone : flat_map f (place x (ascending xs)) ≡ f x = place_only f x (ascending xs) (subst (OnlyOf f) (sym same) only) (has_text-ascending x xs ∙ is) in
            alone ∙ ap f same)
        | false ↦ (λ there. place_other f x (only x there) (ascending xs) ∙ flat_map-ascending f c only xs)
      ]) refl)
    ]) refl
