-- Facts on lists that the proofs share.
use Rattle.std.proofs.Common.{◌≡◌, Bool, true, false, not, ◌&&◌, ◌||◌, cond, List, [], ◌∷◌, ◌++◌, Option, None, filter, filter_map, flat_map, map, refl, ap, ap₂, sym, ◌∙◌}
use Rattle.std.proofs.Math.Bool.{or_assoc, or_comm}
use Rattle.std.specs.List.{list_any, cons_option}
use Rattle.std.proofs.lemmas.List.Elements.{filter-append, filter_map-append}
use Rattle.ch_history.specs.OpenRows.{is_empty}

pub both : (a b : Bool) → (a && b) ≡ true → (a ≡ true) × (b ≡ true)
both true b is = (refl, is)
both false b is = cc

pub neither : (a b : Bool) → (a || b) ≡ false → (a ≡ false) × (b ≡ false)
neither true b is = cc
neither false b is = (refl, is)

-- a search in a part is a search for both
pub list_any-filter : {X : Type 0} (p q : X → Bool) (xs : List X) → list_any p (filter q xs) ≡ list_any (λ x. p x && q x) xs
list_any-filter p q [] = refl
list_any-filter p q (x ∷ xs) =
    elim (q x) as (λ b. list_any p (cond b (x ∷ filter q xs) (filter q xs)) ≡ ((p x && b) || list_any (λ x. p x && q x) xs)) [
      | true ↦ (elim (p x) as (λ a. (a || list_any p (filter q xs)) ≡ ((a && true) || list_any (λ x. p x && q x) xs)) [ true ↦ refl | false ↦ list_any-filter p q xs ])
      | false ↦ (elim (p x) as (λ a. list_any p (filter q xs) ≡ ((a && false) || list_any (λ x. p x && q x) xs)) [ true ↦ list_any-filter p q xs | false ↦ list_any-filter p q xs ])
    ]

pub list_any-map : {X Y : Type 0} (p : Y → Bool) (f : X → Y) (xs : List X) → list_any p (map f xs) ≡ list_any (λ x. p (f x)) xs
list_any-map p f [] = refl
list_any-map p f (x ∷ xs) = ap (λ b. p (f x) || b) (list_any-map p f xs)

pub list_any-same : {X : Type 0} (p q : X → Bool) (xs : List X) → ((x : X) → p x ≡ q x) → list_any p xs ≡ list_any q xs
list_any-same p q [] same = refl
list_any-same p q (x ∷ xs) same = ap₂ ◌||◌ (same x) (list_any-same p q xs same)

pub list_any-false : {X : Type 0} (xs : List X) → list_any (λ x. false) xs ≡ false
list_any-false [] = refl
list_any-false (x ∷ xs) = list_any-false xs

-- where something passes, there is something
pub not_empty : {X : Type 0} (p : X → Bool) (xs : List X) → list_any p xs ≡ true → is_empty xs ≡ false
not_empty p [] any = cc
not_empty p (x ∷ xs) any = refl

pub is_empty-push : {X : Type 0} (xs : List X) (x : X) → is_empty (xs ++ x ∷ []) ≡ false
is_empty-push [] x = refl
is_empty-push (y ∷ xs) x = refl

-- what nothing passes leaves all
pub filter-none : {X : Type 0} (p : X → Bool) (xs : List X) → list_any p xs ≡ false → filter (λ x. not (p x)) xs ≡ xs
filter-none p [] none = refl
filter-none p (x ∷ xs) none =
    (elim (p x) as (λ a. (a || list_any p xs) ≡ false → cond (not a) (x ∷ filter (λ x. not (p x)) xs) (filter (λ x. not (p x)) xs) ≡ x ∷ xs) [
      | true ↦ (λ h. cc)
      | false ↦ (λ h. ap (λ ys. x ∷ ys) (filter-none p xs h))
    ]) none

-- a weaker test after a stronger one leaves all
pub filter-weaker : {X : Type 0} (p q : X → Bool) (xs : List X) → ((x : X) → q x ≡ true → p x ≡ true) → filter p (filter q xs) ≡ filter q xs
filter-weaker p q [] weaker = refl
filter-weaker p q (x ∷ xs) weaker =
    (elim (q x) as (λ b. (b ≡ true → p x ≡ true) → filter p (cond b (x ∷ filter q xs) (filter q xs)) ≡ cond b (x ∷ filter q xs) (filter q xs)) [
      | true ↦ (λ h. ap (λ a. cond a (x ∷ filter p (filter q xs)) (filter p (filter q xs))) (h refl) ∙ ap (λ ys. x ∷ ys) (filter-weaker p q xs weaker))
      | false ↦ (λ h. filter-weaker p q xs weaker)
    ]) (weaker x)

filter-cond : {X : Type 0} (p : X → Bool) (b : Bool) (x : X) (xs : List X) → filter p (cond b (x ∷ xs) xs) ≡ cond b (cond (p x) (x ∷ filter p xs) (filter p xs)) (filter p xs)
filter-cond p true x xs = refl
filter-cond p false x xs = refl

cond-swap : {X : Type 0} (a b : Bool) (x : X) (xs : List X) → cond a (cond b (x ∷ xs) xs) xs ≡ cond b (cond a (x ∷ xs) xs) xs
cond-swap true true x xs = refl
cond-swap true false x xs = refl
cond-swap false true x xs = refl
cond-swap false false x xs = refl

-- two filters in either order
pub filter-swap : {X : Type 0} (p q : X → Bool) (xs : List X) → filter p (filter q xs) ≡ filter q (filter p xs)
filter-swap p q [] = refl
filter-swap p q (x ∷ xs) =
    filter-cond p (q x) x (filter q xs)
    ∙ ap (λ ys. cond (q x) (cond (p x) (x ∷ ys) ys) ys) (filter-swap p q xs)
    ∙ cond-swap (q x) (p x) x (filter q (filter p xs))
    ∙ sym (filter-cond q (p x) x (filter p xs))

-- what nothing passes, nothing of a part passes
pub list_any-part : {X : Type 0} (p q : X → Bool) (xs : List X) → list_any p xs ≡ false → list_any p (filter q xs) ≡ false
list_any-part p q [] none = refl
list_any-part p q (x ∷ xs) none =
    (elim (p x) as (λ a. (a || list_any p xs) ≡ false → p x ≡ a → list_any p (cond (q x) (x ∷ filter q xs) (filter q xs)) ≡ false) [
      | true ↦ (λ h is. cc)
      | false ↦ (λ h is. elim (q x) as (λ b. list_any p (cond b (x ∷ filter q xs) (filter q xs)) ≡ false) [
        | true ↦ ap (λ a. a || list_any p (filter q xs)) is ∙ list_any-part p q xs h
        | false ↦ list_any-part p q xs h
      ])
    ]) none refl

pub filter_map-flat_map : {X Y Z : Type 0} (g : Y → Option Z) (f : X → List Y) (xs : List X) → filter_map g (flat_map f xs) ≡ flat_map (λ x. filter_map g (f x)) xs
filter_map-flat_map g f [] = refl
filter_map-flat_map g f (x ∷ xs) = filter_map-append g (f x) (flat_map f xs) ∙ ap (λ ys. filter_map g (f x) ++ ys) (filter_map-flat_map g f xs)

pub filter-flat_map : {X Y : Type 0} (p : Y → Bool) (f : X → List Y) (xs : List X) → filter p (flat_map f xs) ≡ flat_map (λ x. filter p (f x)) xs
filter-flat_map p f [] = refl
filter-flat_map p f (x ∷ xs) = filter-append p (f x) (flat_map f xs) ∙ ap (λ ys. filter p (f x) ++ ys) (filter-flat_map p f xs)

-- an element that is there under a condition, and doesn't pass
pub filter-if : {X : Type 0} (p : X → Bool) (b : Bool) (x : X) → p x ≡ false → filter p (cond b (x ∷ []) []) ≡ []
filter-if p true x fails = ap (λ a. cond a (x ∷ []) []) fails
filter-if p false x fails = refl

pub filter-unless : {X : Type 0} (p : X → Bool) (b : Bool) (x : X) → p x ≡ false → filter p (cond b [] (x ∷ [])) ≡ []
filter-unless p true x fails = refl
filter-unless p false x fails = ap (λ a. cond a (x ∷ []) []) fails

-- what doesn't pass gives nothing: a map of what passes is the map of all
pub filter_map-filter : {X Y : Type 0} (f : X → Option Y) (p : X → Bool) (xs : List X) → ((x : X) → p x ≡ false → f x ≡ None) → filter_map f (filter p xs) ≡ filter_map f xs
filter_map-filter f p [] nothing = refl
filter_map-filter f p (x ∷ xs) nothing =
    (elim (p x) as (λ b. p x ≡ b → filter_map f (cond b (x ∷ filter p xs) (filter p xs)) ≡ cons_option (f x) (filter_map f xs)) [
      | true ↦ (λ is. ap (cons_option (f x)) (filter_map-filter f p xs nothing))
      | false ↦ (λ is. filter_map-filter f p xs nothing ∙ sym (ap (λ o. cons_option o (filter_map f xs)) (nothing x is)))
    ]) refl

-- where nothing passes, no part is left
pub filter-nothing : {X : Type 0} (p : X → Bool) (xs : List X) → list_any p xs ≡ false → filter p xs ≡ []
filter-nothing p [] none = refl
filter-nothing p (x ∷ xs) none =
    (elim (p x) as (λ b. (b || list_any p xs) ≡ false → cond b (x ∷ filter p xs) (filter p xs) ≡ []) [
      | true ↦ (λ h. cc)
      | false ↦ (λ h. filter-nothing p xs h)
    ]) none

or-swap : (a b c : Bool) → (a || (b || c)) ≡ (b || (a || c))
or-swap a b c = sym (or_assoc a b c) ∙ ap (λ d. d || c) (or_comm a b) ∙ or_assoc b a c

-- what passes, passes in one of two parts
pub list_any-parts : {X : Type 0} (q p : X → Bool) (xs : List X) → list_any q xs ≡ (list_any q (filter (λ x. not (p x)) xs) || list_any q (filter p xs))
list_any-parts q p [] = refl
list_any-parts q p (x ∷ xs) =
    let kept = list_any q (filter (λ x. not (p x)) xs) in
    let taken = list_any q (filter p xs) in
    ap (λ b. q x || b) (list_any-parts q p xs)
    ∙ elim (p x) as (λ b. (q x || (kept || taken)) ≡ (list_any q (cond (not b) (x ∷ filter (λ x. not (p x)) xs) (filter (λ x. not (p x)) xs)) || list_any q (cond b (x ∷ filter p xs) (filter p xs)))) [
      | true ↦ or-swap (q x) kept taken
      | false ↦ sym (or_assoc (q x) kept taken)
    ]
