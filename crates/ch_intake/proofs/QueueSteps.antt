-- Each call keeps the one order.
use Rattle.std.proofs.Common.{◌≡◌, ◌≢◌, ℕ, zero, suc, eqb, ◌<◌, List, [], ◌∷◌, ◌++◌, length, set, sym, refl, ap, ◌∙◌, subst, ⊎_elim, append_assoc, append-nil, arith}
use Rattle.std.specs.Prelude.{slice_get, if◌then◌else◌}
use Rattle.std.proofs.lemmas.List.Elements.{All-push}
use Rattle.std.proofs.lemmas.Bool.{eq-eqb, ne_eqb}
use mathlib.Core.Option.{some, some-injective, some-ne-none}
use lib.ListN.{get_elem?}
use Rattle.crossbeam_queue.specs.Fifo.{Forks, Learns}
use Rattle.crossbeam_queue.specs.Fifo as fifo
use Rattle.crossbeam_queue.proofs.Lists.{at_set}
use Rattle.ch_intake.specs.declared.limits.TheConstants.{PLACES}
use Rattle.ch_intake.specs.declared.step.Step.{Step}
use Rattle.ch_intake.specs.declared.step.Step.TheVariants.{Push, Pop}
use Rattle.ch_intake.specs.declared.step.Known.{Known}
use Rattle.ch_intake.specs.Orders.{MayFollow, IsLegal, caller_of, NotBy}
use Rattle.ch_intake.specs.PassViews.{known, first_view, after_dealing, dealt_view, HasNumber, Steps, Pushes, Pops, Meets}
use Rattle.ch_intake.specs.QueueRule.{Fits, Kept}
use Rattle.ch_intake.proofs.Places.{at_longer_list}
use Rattle.ch_intake.proofs.OrderSteps.{waiting_are, leaves_push, leaves_pop, legal_push}

-- the owner of a number that is given away
owner_after : ℕ → ℕ → (ℕ → ℕ) → ℕ → ℕ
owner_after given to owner n = if eqb n given then to else owner n

owner_given : (given to : ℕ) (owner : ℕ → ℕ) (n : ℕ) → n ≡ given → owner_after given to owner n ≡ to
unfolding owner_after
owner_given given to owner n is = rw (eq-eqb n given is) refl

owner_else : (given to : ℕ) (owner : ℕ → ℕ) (n : ℕ) → n ≢ given → owner_after given to owner n ≡ owner n
unfolding owner_after
owner_else given to owner n other = rw (ne_eqb n given other) refl

module _ {C : Type 0} where
  no_steps : (n : ℕ) → NotBy {C = C} n []
  no_steps n = λ k d h. absurd (omega arith)

  -- the order has one more step, which its pass has seen
  fits_step : (log : List (Step C)) (owner : ℕ → ℕ) (views : List (Known C)) (port : ℕ) (v : Known C) (s : Step C)
      → ((j : ℕ) (u : Known C) → get_elem? views j ≡ some u → Fits log owner j u) → get_elem? views port ≡ some v → HasNumber (caller_of s) v
      → (j : ℕ) (u : Known C) → get_elem? (set views port (known v.low v.high (log ++ s ∷ []))) j ≡ some u → Fits (log ++ s ∷ []) owner j u
  fits_step log owner views port v s each at mine j u is = ⊎_elim
      (λ (x : (j ≡ port) × (known v.low v.high (log ++ s ∷ []) ≡ u)).
      subst (λ (y : ℕ × Known C). Fits (log ++ s ∷ []) owner y.0 y.1) (λ i. (sym x.0 i, x.1 i))
      ([], sym (append-nil (log ++ s ∷ [])), λ n has. (no_steps n, ((each port v at).2 n has).1)))
      (λ (x : (j ≢ port) × (get_elem? views j ≡ some u)).
      let fits = each j u x.1 in (
        fits.0 ++ s ∷ [],
        ap (λ l. l ++ s ∷ []) fits.1 ∙ append_assoc u.seen fits.0 (s ∷ []),
        λ n has. (
          All-push (λ y. caller_of y ≢ n) fits.0 s (fits.2 n has).0 (λ (e : caller_of s ≡ n). x.0 (sym (fits.2 n has).1 ∙ (ap owner (sym e) ∙ ((each port v at).2 (caller_of s) mine).1))),
          (fits.2 n has).1,
        ),
      ))
      (at_set views port j (known v.low v.high (log ++ s ∷ [])) u is)

  -- so the pass has seen what others did, and then its own step
  steps_step : (log : List (Step C)) (owner : ℕ → ℕ) (port : ℕ) (v : Known C) (s : Step C) → Fits log owner port v → HasNumber (caller_of s) v → IsLegal (log ++ s ∷ [])
      → Steps s v (known v.low v.high (log ++ s ∷ []))
  steps_step log owner port v s fits mine legal = (refl, (log, (fits.0, (fits.2 (caller_of s) mine).0, fits.1), refl), legal)

  pub pushes : (port : ℕ) (v : Known C) (x : C) → v.low < v.high → fifo.Pushes Kept PLACES port v x (Pushes v x)
  pushes port v x some_number items views room kept at =
      let s : Step C = Push v.low x in
      let mine : HasNumber (caller_of s) v = (omega arith, some_number) in
      let may : MayFollow kept.log s = subst (λ l. length l < PLACES) (sym (waiting_are kept.log items kept.content)) room in
      let legal = legal_push kept.log s kept.is_legal may in (
        known v.low v.high (kept.log ++ s ∷ []),
        record {
          log = kept.log ++ s ∷ [];
          is_legal = legal;
          content = leaves_push kept.log items v.low x kept.content;
          owner = kept.owner;
          each = fits_step kept.log kept.owner views port v s kept.each at mine;
        },
        steps_step kept.log kept.owner port v s (kept.each port v at) mine legal,
      )

  pub pops : (port : ℕ) (v : Known C) → v.low < v.high → fifo.Pops Kept port v (Pops v)
  pops port v some_number x items views kept at =
      let s : Step C = Pop v.low x in
      let mine : HasNumber (caller_of s) v = (omega arith, some_number) in
      let may : MayFollow kept.log s = ap (λ l. slice_get l 0) (waiting_are kept.log (x ∷ items) kept.content) in
      let legal = legal_push kept.log s kept.is_legal may in (
        known v.low v.high (kept.log ++ s ∷ []),
        record {
          log = kept.log ++ s ∷ [];
          is_legal = legal;
          content = leaves_pop kept.log items v.low x kept.content;
          owner = kept.owner;
          each = fits_step kept.log kept.owner views port v s kept.each at mine;
        },
        steps_step kept.log kept.owner port v s (kept.each port v at) mine legal,
      )

  pub learns : (port : ℕ) (v : Known C) → v.low < v.high → Learns Kept port v (Meets v)
  learns port v some_number items views kept at =
      let fits = kept.each port v at in (
        kept.log,
        (fits.0, (fits.2 v.low (omega arith, some_number)).0, fits.1),
        kept.is_legal,
        waiting_are kept.log items kept.content,
      )

  pub forks : (port : ℕ) (v : Known C) → v.low < v.high → Forks Kept port v (after_dealing v) (dealt_view v)
  forks port v some_number items views kept at =
      let left = after_dealing v in
      let right = dealt_view v in
      let lefts : List (Known C) = set views port left in
      let mine = kept.each port v at in
      let owner = owner_after v.low (length lefts) kept.owner in
      record {
        log = kept.log;
        is_legal = kept.is_legal;
        content = kept.content;
        owner = owner;
        each = λ j u is. ⊎_elim
            (λ (x : get_elem? lefts j ≡ some u). ⊎_elim
            (λ (y : (j ≡ port) × (left ≡ u)).
            subst (λ (z : ℕ × Known C). Fits kept.log owner z.0 z.1) (λ i. (sym y.0 i, y.1 i)) (
              mine.0,
              mine.1,
              λ n has. let was : HasNumber n v = (omega arith, has.1) in
                  ((mine.2 n was).0, owner_else v.low (length lefts) kept.owner n (λ e. omega arith) ∙ (mine.2 n was).1),
            ))
            (λ (y : (j ≢ port) × (get_elem? views j ≡ some u)).
            let fits = kept.each j u y.1 in (
              fits.0,
              fits.1,
              λ n has. (
                (fits.2 n has).0,
                owner_else v.low (length lefts) kept.owner n (λ (e : n ≡ v.low).
                    y.0 (sym (fits.2 n has).1 ∙ (ap kept.owner e ∙ (mine.2 v.low (omega arith, some_number)).1))) ∙ (fits.2 n has).1,
              ),
            ))
            (at_set views port j left u x))
            (λ (x : (j ≡ length lefts) × (right ≡ u)).
            subst (λ (z : ℕ × Known C). Fits kept.log owner z.0 z.1) (λ i. (sym x.0 i, x.1 i)) (
              mine.0,
              mine.1,
              λ n has. let is : n ≡ v.low = omega arith in
                  ((mine.2 n (omega arith, omega arith)).0, owner_given v.low (length lefts) kept.owner n is),
            ))
            (at_longer_list lefts right u j is);
      }

  at_start : (j : ℕ) (u : Known C) → get_elem? (first_view ∷ []) j ≡ some u → Fits [] (λ n. 0) j u
  at_start zero u is = subst (λ (z : Known C). Fits [] (λ n. 0) 0 z) (some-injective first_view u is) ([], refl, λ n has. (no_steps n, refl))
  at_start (suc j) u is = absurd (some-ne-none u (sym is))

  pub begins : Kept {C = C} [] (first_view ∷ [])
  begins = record { log = []; is_legal = λ k s at. absurd (cc); content = refl; owner = λ n. 0; each = at_start }
