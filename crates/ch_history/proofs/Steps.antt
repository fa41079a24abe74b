-- One more step at the end, and induction, for the histories of any object.
use Rattle.std.proofs.Common.{◌≡◌, Bool, true, false, not, ◌||◌, cond, List, [], ◌∷◌, ◌++◌, Option, Some, None, filter, option_to_list, refl, ap, sym, ◌∙◌, subst, append_assoc, append-nil}
use Rattle.std.specs.List.{list_any, cons_option}
use Rattle.std.proofs.lemmas.List.Folds.{list_any-append}
use Rattle.ch_history.specs.Steps.{gathered, gathered_from, folded, AllHold}
use Rattle.ch_history.specs.OpenRows.{unsettled, open_rows, rows_after}

-- Rows

or-false : (b : Bool) → (b || false) ≡ b
or-false true = refl
or-false false = refl

-- one row, and then those that stay
still_open : {R : Type 0} (a b : Bool) (r : R) (fs ys : List R) → cons_option (cond (a || b) None (Some r)) (fs ++ ys) ≡ cond a fs (cond (not b) (r ∷ fs) fs) ++ ys
still_open true b r fs ys = refl
still_open false true r fs ys = refl
still_open false false r fs ys = refl

filter-option : {R : Type 0} (k : R → Bool) (a : Bool) (r : R) (xs : List R) → filter k (cons_option (cond a None (Some r)) xs) ≡ cond a (filter k xs) (cond (k r) (r ∷ filter k xs) (filter k xs))
filter-option k true r xs = refl
filter-option k false r xs = refl

unsettled-push : {S R : Type 0} (settles : R → S → Bool) (o : Option R) (later : List S) (e : S) (xs ys : List R) → cons_option (unsettled settles (later ++ e ∷ []) o) (filter (λ r. not (settles r e)) xs ++ ys) ≡ filter (λ r. not (settles r e)) (cons_option (unsettled settles later o) xs) ++ ys
unsettled-push settles None later e xs ys = refl
unsettled-push settles (Some r) later e xs ys =
    let before = list_any (settles r) later in
    ap (λ b. cons_option (cond b None (Some r)) (filter (λ r. not (settles r e)) xs ++ ys)) (list_any-append (settles r) later (e ∷ []) ∙ ap (λ b. before || b) (or-false (settles r e)))
    ∙ still_open before (settles r e) r (filter (λ r. not (settles r e)) xs) ys
    ∙ sym (ap (λ zs. zs ++ ys) (filter-option (λ r. not (settles r e)) before r xs))

first_row : {S R : Type 0} (settles : R → S → Bool) (o : Option R) → cons_option (unsettled settles [] o) [] ≡ option_to_list o
first_row settles None = refl
first_row settles (Some r) = refl

-- the rows that the step leaves open, and then the one that it opens
pub open_rows-push : {S R : Type 0} (opens : S → Option R) (settles : R → S → Bool) (h : List S) (e : S) → open_rows opens settles (h ++ e ∷ []) ≡ rows_after opens settles (open_rows opens settles h) e
open_rows-push opens settles [] e = first_row settles (opens e)
open_rows-push opens settles (d ∷ later) e =
    ap (cons_option (unsettled settles (later ++ e ∷ []) (opens d))) (open_rows-push opens settles later e)
    ∙ unsettled-push settles (opens d) later e (open_rows opens settles later) (option_to_list (opens e))

-- What is made

-- what is made since the last stop, and then what the step makes; or nothing, where it stops
pub gathered-push : {S A : Type 0} (stops : S → Bool) (f : List S → S → List A) (h later : List S) (e : S) → gathered stops f h (later ++ e ∷ []) ≡ cond (stops e) [] (gathered stops f h later ++ f (h ++ later) e)
gathered-push stops f h [] e =
    let at_end : f (h ++ []) e ≡ f h e = ap (λ g. f g e) (append-nil h) in
    elim (stops e) as (λ b. cond (b || false) [] (f h e) ++ [] ≡ cond b [] ([] ++ f (h ++ []) e)) [
      | true ↦ refl
      | false ↦ append-nil (f h e) ∙ sym at_end
    ]
gathered-push stops f h (d ∷ later) e =
    let rest = gathered-push stops f (h ++ d ∷ []) later e in
    let before = list_any stops (d ∷ later) in
    ap (λ b. cond b [] (f h d) ++ gathered stops f (h ++ d ∷ []) (later ++ e ∷ [])) (list_any-append stops (d ∷ later) (e ∷ []))
    ∙ ap (λ r. cond (before || (stops e || false)) [] (f h d) ++ r) (rest ∙ ap (λ g. cond (stops e) [] (gathered stops f (h ++ d ∷ []) later ++ f g e)) (append_assoc h (d ∷ []) later))
    ∙ (elim (stops e) as (λ b. cond (before || (b || false)) [] (f h d) ++ cond b [] (gathered stops f (h ++ d ∷ []) later ++ f (h ++ d ∷ later) e) ≡ cond b [] ((cond before [] (f h d) ++ gathered stops f (h ++ d ∷ []) later) ++ f (h ++ d ∷ later) e)) [
      | true ↦ (elim before as (λ a. cond (a || true) [] (f h d) ++ [] ≡ []) [ true ↦ refl | false ↦ refl ])
      | false ↦ (elim before as (λ a. cond (a || false) [] (f h d) ++ (gathered stops f (h ++ d ∷ []) later ++ f (h ++ d ∷ later) e) ≡ (cond a [] (f h d) ++ gathered stops f (h ++ d ∷ []) later) ++ f (h ++ d ∷ later) e) [
        | true ↦ refl
        | false ↦ sym (append_assoc (f h d) (gathered stops f (h ++ d ∷ []) later) (f (h ++ d ∷ later) e))
      ])
    ])

-- what is made from the last start on, and then what the step makes; or that alone, where it starts
pub gathered_from-push : {S A : Type 0} (starts : S → Bool) (f : List S → S → List A) (h later : List S) (e : S) → gathered_from starts f h (later ++ e ∷ []) ≡ cond (starts e) [] (gathered_from starts f h later) ++ f (h ++ later) e
gathered_from-push starts f h [] e =
    let at_end : f (h ++ []) e ≡ f h e = ap (λ g. f g e) (append-nil h) in
    append-nil (f h e) ∙ sym at_end ∙ sym (elim (starts e) as (λ b. cond b [] [] ++ f (h ++ []) e ≡ f (h ++ []) e) [ true ↦ refl | false ↦ refl ])
gathered_from-push starts f h (d ∷ later) e =
    let rest = gathered_from-push starts f (h ++ d ∷ []) later e in
    let before = list_any starts later in
    ap (λ b. cond b [] (f h d) ++ gathered_from starts f (h ++ d ∷ []) (later ++ e ∷ [])) (list_any-append starts later (e ∷ []))
    ∙ ap (λ r. cond (before || (starts e || false)) [] (f h d) ++ r) (rest ∙ ap (λ g. cond (starts e) [] (gathered_from starts f (h ++ d ∷ []) later) ++ f g e) (append_assoc h (d ∷ []) later))
    ∙ (elim (starts e) as (λ b. cond (before || (b || false)) [] (f h d) ++ (cond b [] (gathered_from starts f (h ++ d ∷ []) later) ++ f (h ++ d ∷ later) e) ≡ cond b [] (cond before [] (f h d) ++ gathered_from starts f (h ++ d ∷ []) later) ++ f (h ++ d ∷ later) e) [
      | true ↦ (elim before as (λ a. cond (a || true) [] (f h d) ++ f (h ++ d ∷ later) e ≡ f (h ++ d ∷ later) e) [ true ↦ refl | false ↦ refl ])
      | false ↦ (elim before as (λ a. cond (a || false) [] (f h d) ++ (gathered_from starts f (h ++ d ∷ []) later ++ f (h ++ d ∷ later) e) ≡ (cond a [] (f h d) ++ gathered_from starts f (h ++ d ∷ []) later) ++ f (h ++ d ∷ later) e) [
        | true ↦ refl
        | false ↦ sym (append_assoc (f h d) (gathered_from starts f (h ++ d ∷ []) later) (f (h ++ d ∷ later) e))
      ])
    ])

-- what f makes of the steps before, and then of this one
pub folded-push : {S A : Type 0} (f : List S → S → A → A) (a : A) (h later : List S) (e : S) → folded f a h (later ++ e ∷ []) ≡ f (h ++ later) e (folded f a h later)
folded-push f a h [] e = ap (λ g. f g e a) (sym (append-nil h))
folded-push f a h (d ∷ later) e =
    folded-push f (f h d a) (h ++ d ∷ []) later e ∙ ap (λ g. f g e (folded f (f h d a) (h ++ d ∷ []) later)) (append_assoc h (d ∷ []) later)

-- What holds of every step

pub AllHold-all : {S : Type 0} (holds : List S → S → Type 0) → ((h : List S) (e : S) → holds h e) → (h later : List S) → AllHold holds h later
AllHold-all holds each h [] = tt
AllHold-all holds each h (e ∷ later) = (each h e, AllHold-all holds each (h ++ e ∷ []) later)

pub AllHold-push : {S : Type 0} (holds : List S → S → Type 0) (h later : List S) (e : S) → AllHold holds h later → holds (h ++ later) e → AllHold holds h (later ++ e ∷ [])
AllHold-push holds h [] e all here = (subst (λ g. holds g e) (append-nil h) here, tt)
AllHold-push holds h (d ∷ later) e all here =
    (all.0, AllHold-push holds (h ++ d ∷ []) later e all.1 (subst (λ g. holds g e) (sym (append_assoc h (d ∷ []) later)) here))

-- of a longer list it holds of the front
pub AllHold-front : {S : Type 0} (holds : List S → S → Type 0) (h later more : List S) → AllHold holds h (later ++ more) → AllHold holds h later
AllHold-front holds h [] more all = tt
AllHold-front holds h (d ∷ later) more all = (all.0, AllHold-front holds (h ++ d ∷ []) later more all.1)

-- and of the step after the front
pub AllHold-last : {S : Type 0} (holds : List S → S → Type 0) (h later : List S) (e : S) (more : List S) → AllHold holds h (later ++ e ∷ more) → holds (h ++ later) e
AllHold-last holds h [] e more all = subst (λ g. holds g e) (sym (append-nil h)) all.0
AllHold-last holds h (d ∷ later) e more all = subst (λ g. holds g e) (append_assoc h (d ∷ []) later) (AllHold-last holds (h ++ d ∷ []) later e more all.1)

run : {S : Type 0} (holds : List S → S → Type 0) (P : List S → Type 0) → ((h : List S) (e : S) → AllHold holds [] h → holds h e → P h → P (h ++ e ∷ [])) → (h later : List S) → AllHold holds [] h → P h → AllHold holds h later → P (h ++ later)
run holds P more h [] all here rest = subst P (sym (append-nil h)) here
run holds P more h (e ∷ later) all here rest =
    subst P (append_assoc h (e ∷ []) later) (run holds P more (h ++ e ∷ []) later (AllHold-push holds [] h e all rest.0) (more h e all rest.0 here) rest.1)

-- what is true of no steps, and with each further one that holds, is true of all lists of which every step holds
pub history_induction : {S : Type 0} (holds : List S → S → Type 0) (P : List S → Type 0) → P [] → ((h : List S) (e : S) → AllHold holds [] h → holds h e → P h → P (h ++ e ∷ [])) → (h : List S) → AllHold holds [] h → P h
history_induction holds P none more h all = run holds P more [] h tt none all

-- what is true of no steps, and with each further one, is true of all lists of steps
pub steps_induction : {S : Type 0} (P : List S → Type 0) → P [] → ((h : List S) (e : S) → P h → P (h ++ e ∷ [])) → (h : List S) → P h
steps_induction P none more h = history_induction (λ g e. Unit {0}) P none (λ g e all step so. more g e so) h (AllHold-all (λ g e. Unit {0}) (λ g e. tt) [] h)
