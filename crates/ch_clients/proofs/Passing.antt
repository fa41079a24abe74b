-- A pass over a list, turn by turn.
use Rattle.std.proofs.Common.{◌≡◌, ◌≤◌, ◌<◌, ◌+◌, ℕ, zero, suc, ◌-◌, List, [], ◌∷◌, ◌++◌, length, map, drop, ap, sym, subst, refl, ◌∙◌, arith, add-one, append_assoc, append-nil, length-append}
use Rattle.std.specs.Prelude.{Some, slice_get}
use Rattle.std.specs.List.{flat_map}
use Rattle.std.proofs.lemmas.List.Concat.{flat_map-append}
use Rattle.ch_clients.proofs.Edits.{take_split, drop_split, get_split}
use Rattle.ch_clients.proofs.InTurns.{in_turn_push}
use Rattle.ch_clients.proofs.Parts.{strongest_push}
use Rattle.ch_clients.specs.Answers.{stronger, strongest}
use Rattle.ch_clients.specs.InTurn.{InTurn}
use Rattle.ch_clients.specs.Passes.{replaced, HasTurn, HasPassed}
use Rattle.ch_clients.specs.declared.answer.WorkerTurn.{WorkerTurn}
use Rattle.ch_clients.specs.declared.answer.WorkerTurn.TheVariants.{Idle}
use Rattle.ch_clients.specs.declared.next.Next.{Next}

module _ {A : Type 0} where
  pub replaced_split : (front these : List A) (x : A) (rest : List A) → replaced (length front) these (front ++ x ∷ rest) ≡ front ++ (these ++ rest)
  replaced_split front these x rest =
      ap (λ xs. xs ++ (these ++ drop (length front + 1) (front ++ x ∷ rest))) (take_split front (x ∷ rest))
      ∙ ap (λ n. front ++ (these ++ drop n (front ++ x ∷ rest))) (add-one (length front))
      ∙ ap (λ xs. front ++ (these ++ xs)) (drop_split front x rest)

module _ {A B : Type 0} where
  flat_push : (keeps : B → List A) (ys : List B) (y : B) → flat_map keeps (ys ++ y ∷ []) ≡ flat_map keeps ys ++ keeps y
  flat_push keeps ys y = flat_map-append keeps ys (y ∷ []) ∙ ap (λ xs. flat_map keeps ys ++ xs) (append-nil (keeps y))

module _ {A : Type 0} where
  none_there : (kept : List A) (place : ℕ) (x : A) → place ≡ length kept → slice_get (kept ++ []) place ≡ Some x → ⊥
  none_there [] zero x at there = cc
  none_there [] (suc place) x at there = absurd (omega (arith, at))
  none_there (c ∷ kept) zero x at there = absurd (omega (arith, at))
  none_there (c ∷ kept) (suc place) x at there = none_there kept place x (omega (arith, at)) there

  -- the one whose turn it is
  next_one : (kept rest : List A) (place : ℕ) (x : A) → place ≡ length kept → slice_get (kept ++ rest) place ≡ Some x
      → (more : List A) × (rest ≡ x ∷ more)
  next_one kept [] place x at there = absurd (none_there kept place x at there)
  next_one kept (c ∷ more) place x at there =
      let e : Some c ≡ Some x = sym (get_split kept c more) ∙ ap (λ k. slice_get (kept ++ c ∷ more) k) (sym at) ∙ there in
      (more, let same : c ≡ x = cc in ap (λ z. z ∷ more) same)

  -- so many still wait
  left_over : (xs kept rest : List A) (place : ℕ) → xs ≡ kept ++ rest → place ≡ length kept → length xs - place ≡ length rest
  left_over xs kept rest place is at = omega (arith, ap length is, at, length-append kept rest)

  -- none waits any more
  no_rest : (kept rest : List A) (place : ℕ) → place ≡ length kept → length (kept ++ rest) ≤ place → rest ≡ []
  no_rest kept [] place at over = refl
  no_rest kept (x ∷ rest) place at over = absurd (omega (arith, at, over, length-append kept (x ∷ rest)))

module _ {A B S : Type 0} (P : A → B → S → S → Type 0) (keeps : B → List A) (part_of : B → WorkerTurn) where
  -- none had its turn yet
  pub pass_begins : (xs : List A) (now : S) → HasPassed P keeps part_of xs xs now now [] 0 Idle
  pass_begins xs now = record { done = []; rest = xs; split = refl; turns = refl; is = refl; at = refl; comes = refl }

  -- who stands there after one more turn
  replaced_there : (kept rest xs xs_new : List A) (now later : S) (place : ℕ) (y : B) (next : Next)
      → xs ≡ kept ++ rest → place ≡ length kept → (t : HasTurn P keeps part_of place xs xs_new now later y next)
      → (more : List A) × (rest ≡ t.x ∷ more) × (xs_new ≡ kept ++ (keeps y ++ more))
  replaced_there kept rest xs xs_new now later place y next is at t =
      let n = next_one kept rest place t.x at (subst (λ zs. slice_get zs place ≡ Some t.x) is t.there) in (
        n.0,
        n.1,
        t.replaced ∙ ap (λ k. replaced k (keeps y) xs) at
            ∙ ap (λ zs. replaced (length kept) (keeps y) zs) (is ∙ ap (λ zs. kept ++ zs) n.1) ∙ replaced_split kept (keeps y) t.x n.0,
      )

  -- one more turn
  pub pass_goes_on : (old xs xs_new : List A) (before now later : S) (ys : List B) (place : ℕ) (part : WorkerTurn) (y : B) (next : Next)
      → HasPassed P keeps part_of old xs before now ys place part → HasTurn P keeps part_of place xs xs_new now later y next
      → HasPassed P keeps part_of old xs_new before later (ys ++ y ∷ []) next.place (stronger part next.part)
  pass_goes_on old xs xs_new before now later ys place part y next h t =
      let kept = flat_map keeps ys in
      let n = replaced_there kept h.rest xs xs_new now later place y next h.is h.at t in
      record {
        done = h.done ++ t.x ∷ [];
        rest = n.0;
        split = h.split ∙ ap (λ zs. h.done ++ zs) n.1 ∙ sym (append_assoc h.done (t.x ∷ []) n.0);
        turns = in_turn_push P h.done ys t.x y before now later h.turns t.turn;
        is = n.2 ∙ sym (append_assoc kept (keeps y) n.0) ∙ ap (λ zs. zs ++ n.0) (sym (flat_push keeps ys y));
        at = t.follows ∙ ap (λ k. k + length (keeps y)) h.at ∙ sym (length-append kept (keeps y)) ∙ ap length (sym (flat_push keeps ys y));
        comes = ap (λ p. stronger p next.part) h.comes ∙ ap (λ p. stronger (strongest (map part_of ys)) p) t.part ∙ sym (strongest_push part_of ys y);
      }

  -- all had their turn
  pub pass_ends : (old xs : List A) (before now : S) (ys : List B) (place : ℕ) (part : WorkerTurn) → HasPassed P keeps part_of old xs before now ys place part
      → length xs ≤ place → InTurn P old ys before now × (xs ≡ flat_map keeps ys) × (part ≡ strongest (map part_of ys))
  pass_ends old xs before now ys place part h over =
      let empty = no_rest (flat_map keeps ys) h.rest place h.at (subst (λ zs. length zs ≤ place) h.is over) in (
        subst (λ zs. InTurn P zs ys before now) (sym (h.split ∙ ap (λ zs. h.done ++ zs) empty ∙ append-nil h.done)) h.turns,
        h.is ∙ ap (λ zs. flat_map keeps ys ++ zs) empty ∙ append-nil (flat_map keeps ys),
        h.comes,
      )

  -- one fewer still waits
  pub pass_falls : (old xs xs_new : List A) (before now later : S) (ys : List B) (place : ℕ) (part : WorkerTurn) (y : B) (next : Next)
      → HasPassed P keeps part_of old xs before now ys place part → HasTurn P keeps part_of place xs xs_new now later y next
      → length xs_new - next.place < length xs - place
  pass_falls old xs xs_new before now later ys place part y next h t =
      let kept = flat_map keeps ys in
      let n = replaced_there kept h.rest xs xs_new now later place y next h.is h.at t in
      let before_it = left_over xs kept h.rest place h.is h.at in
      let after_it = left_over xs_new (kept ++ keeps y) n.0 next.place (n.2 ∙ sym (append_assoc kept (keeps y) n.0))
      (t.follows ∙ ap (λ k. k + length (keeps y)) h.at ∙ sym (length-append kept (keeps y))) in
      omega (arith, before_it, after_it, ap length n.1)
