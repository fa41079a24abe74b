-- What contracts see of the passes of an intake.
use Rattle.std.specs.Prelude.{◌≡◌, ℕ, List, [], Option, Some, None, slice_index_or}
use Rattle.atomic_table.specs.Seated.{TableId}
use Rattle.ch_intake.specs.declared.step.Step.{Step}

-- a pass: its intake, the caller number, and the steps that it has seen
pub record PassModel (C : Type 0) : Type 0 where
  pub intake : TableId
  pub caller : ℕ
  pub seen : List (Step C)

-- the passes of an intake, with None where one is taken
pub record PassListModel (C : Type 0) : Type 0 where
  pub intake : TableId
  pub slots : List (Option (PassModel C))

module _ {C : Type 0} where
  -- the pass of a caller that has seen nothing
  abbrev pub fresh_pass : TableId → ℕ → PassModel C
  fresh_pass intake caller = record { intake = intake; caller = caller; seen = [] }

  -- the pass is of the intake, and has the number i
  abbrev pub IsPassAt : TableId → ℕ → PassModel C → Type 0
  IsPassAt intake i p = (p.intake ≡ intake) × (p.caller ≡ i)

  -- each pass that is there stands at its number
  abbrev pub AllInPlace : TableId → List (Option (PassModel C)) → Type 0
  AllInPlace intake slots = (i : ℕ) (p : PassModel C) → slice_index_or slots i None ≡ Some p → IsPassAt intake i p
