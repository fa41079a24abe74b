-- What a pass knows, and how its calls change that.
use Rattle.std.specs.Prelude.{◌≡◌, ℕ, ◌+◌, ◌<◌, ◌≤◌, List, []}
use Rattle.ch_base.specs.declared.limits.TheConstants.{MAX_CALLERS}
use Rattle.crossbeam_queue.specs.Passes.{Pass, view}
use Rattle.ch_intake.specs.declared.step.Step.{Step}
use Rattle.ch_intake.specs.declared.step.Step.TheVariants.{Push, Pop}
use Rattle.ch_intake.specs.declared.step.Known.{Known}
use Rattle.ch_intake.specs.Orders.{items_waiting, IsLegal, GrowsBy, GrowsByOthers}

module _ {C : Type 0} where
  abbrev pub known : ℕ → ℕ → List (Step C) → Known C
  known low high seen = record { low = low; high = high; seen = seen }

  -- it has all caller numbers, and has seen nothing
  abbrev pub first_view : Known C
  first_view = known 0 MAX_CALLERS []

  -- the lowest number is given away
  abbrev pub after_dealing : Known C → Known C
  after_dealing v = known (v.low + 1) v.high v.seen

  -- the new pass has it
  abbrev pub dealt_view : Known C → Known C
  dealt_view v = known v.low (v.low + 1) v.seen

  -- the pass has this caller number
  abbrev pub HasNumber : ℕ → Known C → Type 0
  HasNumber caller v = (v.low ≤ caller) × (caller < v.high)

  -- the pass sees what others did, and then its own step
  abbrev pub Steps : Step C → Known C → Known C → Type 0
  Steps s v w = (w ≡ known v.low v.high w.seen) × GrowsBy s v.seen w.seen × IsLegal w.seen

  abbrev pub Pushes : Known C → C → Known C → Type 0
  Pushes v item w = Steps (Push v.low item) v w

  abbrev pub Pops : Known C → C → Known C → Type 0
  Pops v item w = Steps (Pop v.low item) v w

  -- these items wait, after what the pass has seen and steps of others
  abbrev pub Meets : Known C → List C → Type 0
  Meets v items = (then : List (Step C)) × GrowsByOthers v.low v.seen then × IsLegal then × (items_waiting then ≡ items)

  -- what the pass has seen
  abbrev pub steps_seen : Pass C (Known C) → List (Step C)
  steps_seen p = (view p).seen

  -- the pass of one caller: no slot is out with it, and what it has seen is legal
  abbrev pub IsCallersPass : Pass C (Known C) → ℕ → Type 0
  IsCallersPass p caller =
      (p.me.1 ≡ []) × (caller < MAX_CALLERS) × (view p ≡ known caller (caller + 1) (steps_seen p)) × IsLegal (steps_seen p)
