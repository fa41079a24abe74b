-- Whose the entries of a list are.
use Rattle.std.specs.Prelude.{◌≡◌, ℕ, ◌<◌, List, ◌++◌, All}
use Rattle.ch_base.specs.declared.entry.Entry.{Entry}
use Rattle.ch_base.specs.Growth.{NotBy}

module _ {C A : Type 0} where
  -- each entry is of a caller whose number is below that of the callers
  abbrev pub CallersBelow : ℕ → List (Entry C A) → Type 0
  CallersBelow callers log = All (λ e. e.caller < callers) log

  -- the list goes on by entries of other callers alone
  abbrev pub GrowsByOthers : ℕ → List (Entry C A) → List (Entry C A) → Type 0
  GrowsByOthers caller before after = (more : List (Entry C A)) × (before ++ more ≡ after) × NotBy caller more
