-- What the parts of a turn come to.
use Rattle.std.proofs.Common.{◌≡◌, ◌≢◌, zero, suc, arith, inl, inr, List, [], ◌∷◌, ◌++◌, map, refl, ap, sym, ◌∙◌}
use Rattle.std.specs.List.{fold}
use Rattle.std.specs.Prelude.{All, Contains, ◌⊎◌}
use Rattle.std.proofs.lemmas.List.Sums.{fold-append}
use Rattle.std.proofs.lemmas.List.{map-append}
use Rattle.std.proofs.lemmas.List.Elements.{All-cons, All-nil, All-head, All-tail}
use Rattle.ch_clients.specs.Answers.{stronger, strongest}
use Rattle.ch_clients.specs.declared.answer.WorkerTurn.{WorkerTurn}
use Rattle.ch_clients.specs.declared.answer.WorkerTurn.TheVariants.{Idle, Moved, Memory}

-- ---- parts of parts

pub idle_left : (p : WorkerTurn) → stronger Idle p ≡ p
idle_left Idle = refl
idle_left Moved = refl
idle_left Memory = refl

idle_right : (p : WorkerTurn) → stronger p Idle ≡ p
idle_right Idle = refl
idle_right Moved = refl
idle_right Memory = refl

-- it doesn't matter which two are taken together first
pub stronger_assoc : (p q r : WorkerTurn) → stronger (stronger p q) r ≡ stronger p (stronger q r)
stronger_assoc Memory q r = refl
stronger_assoc Idle q r = ap (λ x. stronger x r) (idle_left q) ∙ sym (idle_left (stronger q r))
stronger_assoc Moved Memory r = refl
stronger_assoc Moved Idle Idle = refl
stronger_assoc Moved Idle Moved = refl
stronger_assoc Moved Idle Memory = refl
stronger_assoc Moved Moved Idle = refl
stronger_assoc Moved Moved Moved = refl
stronger_assoc Moved Moved Memory = refl

strongest_from : (p : WorkerTurn) (xs : List WorkerTurn) → fold stronger p xs ≡ stronger p (strongest xs)
strongest_from p [] = sym (idle_right p)
strongest_from p (x ∷ xs) =
    strongest_from (stronger p x) xs ∙ stronger_assoc p x (strongest xs) ∙ ap (λ q. stronger p q) (sym (strongest_from x xs) ∙ ap (λ q. fold stronger q xs) (sym (idle_left x)))

pub strongest_cons : (x : WorkerTurn) (xs : List WorkerTurn) → strongest (x ∷ xs) ≡ stronger x (strongest xs)
strongest_cons x xs = strongest_from (stronger Idle x) xs ∙ ap (λ q. stronger q (strongest xs)) (idle_left x)

pub strongest_append : (xs ys : List WorkerTurn) → strongest (xs ++ ys) ≡ stronger (strongest xs) (strongest ys)
strongest_append xs ys = fold-append stronger Idle xs ys ∙ strongest_from (strongest xs) ys

pub strongest_one : (x : WorkerTurn) → strongest (x ∷ []) ≡ x
strongest_one x = idle_left x

pub strongest_push : {B : Type 0} (part_of : B → WorkerTurn) (ys : List B) (y : B)
    → strongest (map part_of (ys ++ y ∷ [])) ≡ stronger (strongest (map part_of ys)) (part_of y)
strongest_push part_of ys y = ap strongest (map-append part_of ys (y ∷ [])) ∙ fold-append stronger Idle (map part_of ys) (part_of y ∷ [])

-- the four parts of a worker's turn
pub strongest_four : (takes lefts turns : List WorkerTurn) (arrived : WorkerTurn)
    → stronger (stronger (stronger (strongest takes) (strongest lefts)) arrived) (strongest turns) ≡ strongest (takes ++ (lefts ++ arrived ∷ turns))
strongest_four takes lefts turns arrived =
    ap (λ q. stronger q (strongest turns)) (stronger_assoc (strongest takes) (strongest lefts) arrived)
    ∙ stronger_assoc (strongest takes) (stronger (strongest lefts) arrived) (strongest turns)
    ∙ ap (λ q. stronger (strongest takes) q) (stronger_assoc (strongest lefts) arrived (strongest turns))
    ∙ sym (strongest_append takes (lefts ++ arrived ∷ turns)
    ∙ ap (λ q. stronger (strongest takes) q) (strongest_append lefts (arrived ∷ turns) ∙ ap (λ q. stronger (strongest lefts) q) (strongest_cons arrived turns)))

-- ---- where there was memory

memory_right : (p : WorkerTurn) → stronger p Memory ≡ Memory
memory_right Idle = refl
memory_right Moved = refl
memory_right Memory = refl

both_whole : (p q : WorkerTurn) → stronger p q ≢ Memory → (p ≢ Memory) × (q ≢ Memory)
both_whole Memory q whole = absurd (whole refl)
both_whole Idle Memory whole = absurd (whole refl)
both_whole Moved Memory whole = absurd (whole refl)
both_whole Idle Idle whole = (λ e. cc, λ e. cc)
both_whole Idle Moved whole = (λ e. cc, λ e. cc)
both_whole Moved Idle whole = (λ e. cc, λ e. cc)
both_whole Moved Moved whole = (λ e. cc, λ e. cc)

pub whole_all : (xs : List WorkerTurn) → strongest xs ≢ Memory → All (λ p. p ≢ Memory) xs
whole_all [] whole = All-nil (λ p. p ≢ Memory)
whole_all (x ∷ xs) whole =
    let both = both_whole x (strongest xs) (λ e. whole (strongest_cons x xs ∙ e)) in
    All-cons (λ p. p ≢ Memory) x xs both.0 (whole_all xs both.1)

either_short : (p q : WorkerTurn) → stronger p q ≡ Memory → (p ≡ Memory) ⊎ (q ≡ Memory)
either_short Memory q e = inl refl
either_short Idle Memory e = inr refl
either_short Moved Memory e = inr refl
either_short Idle Idle e = absurd cc
either_short Idle Moved e = absurd cc
either_short Moved Idle e = absurd cc
either_short Moved Moved e = absurd cc

pub short_one : (xs : List WorkerTurn) → strongest xs ≡ Memory → Contains xs Memory
short_one [] e = absurd cc
short_one (x ∷ xs) e = elim (either_short x (strongest xs) (sym (strongest_cons x xs) ∙ e)) [
  | inl here ↦ (0, omega arith, here)
  | inr there ↦ let c = short_one xs there in (suc c.0, omega (arith, c.1), c.2)
]

pub one_short : (xs : List WorkerTurn) → Contains xs Memory → strongest xs ≡ Memory
one_short [] (k, lt, e) = absurd (omega (arith, lt))
one_short (x ∷ xs) (zero, lt, e) = strongest_cons x xs ∙ ap (λ p. stronger p (strongest xs)) e
one_short (x ∷ xs) (suc k, lt, e) =
    strongest_cons x xs ∙ ap (λ p. stronger x p) (one_short xs (k, omega (arith, lt), e)) ∙ memory_right x

-- ---- where it is idle

both_idle : (p q : WorkerTurn) → stronger p q ≡ Idle → (p ≡ Idle) × (q ≡ Idle)
both_idle Idle Idle e = (refl, refl)
both_idle Idle Moved e = absurd cc
both_idle Idle Memory e = absurd cc
both_idle Moved Idle e = absurd cc
both_idle Moved Moved e = absurd cc
both_idle Moved Memory e = absurd cc
both_idle Memory q e = absurd cc

pub idle_all : (xs : List WorkerTurn) → strongest xs ≡ Idle → All (λ p. p ≡ Idle) xs
idle_all [] e = All-nil (λ p. p ≡ Idle)
idle_all (x ∷ xs) e =
    let both = both_idle x (strongest xs) (sym (strongest_cons x xs) ∙ e) in
    All-cons (λ p. p ≡ Idle) x xs both.0 (idle_all xs both.1)

pub all_idle : (xs : List WorkerTurn) → All (λ p. p ≡ Idle) xs → strongest xs ≡ Idle
all_idle [] all = refl
all_idle (x ∷ xs) all =
    strongest_cons x xs ∙ ap (λ p. stronger p (strongest xs)) (All-head (λ p. p ≡ Idle) x xs all)
    ∙ ap (λ p. stronger Idle p) (all_idle xs (All-tail (λ p. p ≡ Idle) x xs all))
