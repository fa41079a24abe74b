-- Calls of accept, one after another.
use Rattle.std.proofs.Common.{◌≡◌, ℕ, ◌+◌, List, [], ◌∷◌, ◌++◌, refl, subst}
use Rattle.ch_intake.specs.Orders.{GrowsBy}
use Rattle.ch_intake.specs.declared.step.Step.TheVariants.{Push}
use Rattle.ch_serve.specs.Accepting.{Came, waits, Comes, AllCome, Door}
use Rattle.ch_serve.specs.declared.numbered.Numbered.{Numbered}

module _ {L : Type 0} where
  pub all_come-more : (caller : ℕ) (cs : List (Came L)) (c : Came L) (old mid new : Door L) → AllCome caller cs old mid → Comes caller c mid new
      → AllCome caller (cs ++ c ∷ []) old new
  all_come-more caller [] c old mid new same here = (new, subst (λ (d : Door L). Comes caller c d new) same here, refl)
  all_come-more caller (x ∷ xs) c old mid new (next, first, rest) here = (next, first, all_come-more caller xs c next mid new rest here)

  -- a connection that waits in the intake has come
  pub waits_next : (caller : ℕ) (item : Numbered L) (old new : Door L) → GrowsBy (Push caller item) old.seen new.seen → item.arrival.number ≡ old.numbered + 1
      → new.numbered ≡ old.numbered + 1 → (came : Came L) × Comes caller came old new
  waits_next caller item old new grows number numbered = (waits item, (number, numbered, grows))
