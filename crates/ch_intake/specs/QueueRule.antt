-- The rule that all calls on an intake keep.
use Rattle.std.specs.Prelude.{◌≡◌, ℕ, List, ◌++◌}
use mathlib.Core.Option.{some}
use lib.ListN.{get_elem?}
use Rattle.ch_intake.specs.declared.step.Step.{Step}
use Rattle.ch_intake.specs.declared.step.Known.{Known}
use Rattle.ch_intake.specs.Orders.{items_pushed, items_popped, IsLegal, NotBy}
use Rattle.ch_intake.specs.PassViews.{HasNumber}

module _ {C : Type 0} where
  -- the order begins with what the pass has seen, and goes on by steps of other callers; of its numbers it is the owner
  abbrev pub Fits : List (Step C) → (ℕ → ℕ) → ℕ → Known C → Type 0
  Fits log owner port v = (more : List (Step C)) × (log ≡ v.seen ++ more)
      × ((caller : ℕ) → HasNumber caller v → NotBy caller more × (owner caller ≡ port))

  -- there is one legal order of all steps, which leaves these items. It fits what each pass has seen, and each caller
  -- number has one owner
  pub record Kept (items : List C) (views : List (Known C)) : Type 0 where
    pub log : List (Step C)
    pub is_legal : IsLegal log
    pub content : items_pushed log ≡ items_popped log ++ items
    pub owner : ℕ → ℕ
    pub each : (port : ℕ) (v : Known C) → get_elem? views port ≡ some v → Fits log owner port v
