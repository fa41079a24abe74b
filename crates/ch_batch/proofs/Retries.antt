-- The batches that wait after a step.
use Rattle.std.proofs.Common.{◌≡◌, ◌≢◌, ℕ, ◌+◌, ◌<◌, ◌==◌, true, false, cond, length, get_or, All, List, [], ◌∷◌, arith, refl, sym, subst}
use Rattle.std.proofs.lemmas.Bool.{eqb-false}
use Rattle.std.proofs.lemmas.List.Elements.{All-cons, All-head, All-tail}
use Rattle.ch_io.specs.declared.post.Posted.{Posted}
use Rattle.ch_webhooks.specs.declared.batch.Waiting.{Waiting}
use Rattle.ch_batch.specs.declared.step.Step.TheVariants as Step
use Rattle.ch_batch.specs.Steps.{due_after, is_received, left_by, step_answer}

-- it may be tried once more
abbrev pub IsOpen : Waiting → Type 0
IsOpen w = w.tries < 8

kept : (w : Waiting) (others : List Waiting) (tries due : ℕ) → tries < 8 → All IsOpen others → All IsOpen (record { batch = w.batch; tries = tries; due = due } ∷ others)
kept w others tries due few rest = All-cons IsOpen (record { batch = w.batch; tries = tries; due = due }) others few rest

-- each batch that waits after a try may be tried once more
pub open_after : (posted : Posted) (w : Waiting) (now : ℕ) (items left : List Waiting) → 0 < length items → w ≡ get_or items 0 w → left ≡ left_by (step_answer posted w now) items
    → All IsOpen items → All IsOpen left
open_after posted w now [] left some first is all = absurd (omega arith)
open_after posted w now (v ∷ others) left some first is all =
    let rest : All IsOpen others = All-tail IsOpen v others all in
    let mine : w.tries < 8 = subst IsOpen (sym first) (All-head IsOpen v others all) in
    subst (All IsOpen) (sym is)
    ((elim (is_received posted) as (λ r. is_received posted ≡ r → All IsOpen (left_by (cond r (Step.Sent w.batch.number) (cond (w.tries + 1 == 8) (Step.GaveUp w.batch.number) (Step.Retry w.batch.number (w.tries + 1) (due_after (w.tries + 1) now)))) (v ∷ others))) [
      | true ↦ (λ e. rest)
      | false ↦ (λ e. (elim (w.tries + 1 == 8) as (λ b. (w.tries + 1 == 8) ≡ b → All IsOpen (left_by (cond b (Step.GaveUp w.batch.number) (Step.Retry w.batch.number (w.tries + 1) (due_after (w.tries + 1) now))) (v ∷ others))) [
        | true ↦ (λ e. rest)
        | false ↦ (λ ne. kept v others (w.tries + 1) (due_after (w.tries + 1) now) (let differs : w.tries + 1 ≢ 8 = eqb-false (w.tries + 1) 8 ne in omega arith) rest)
      ]) refl)
    ]) refl)
