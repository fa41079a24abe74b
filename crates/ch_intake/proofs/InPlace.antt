-- Passes at their numbers.
use Rattle.std.proofs.Common.{◌≡◌, ℕ, List, get_or, Option, Some, None, IfSome, sym}
use Rattle.atomic_table.specs.Seated.{TableId}
use Rattle.ch_intake.specs.PassModels.{PassModel, IsPassAt, AllInPlace}

module _ {C : Type 0} where
  -- a pass that is there is the one of its number
  pub pass_at : (intake : TableId) (slots : List (Option (PassModel C))) → AllInPlace intake slots
      → (i : ℕ) (pass : Option (PassModel C)) → pass ≡ get_or slots i None → IfSome pass (IsPassAt intake i)
  pass_at intake slots in_place i (Some p) is = in_place i p (sym is)
  pass_at intake slots in_place i None is = tt
