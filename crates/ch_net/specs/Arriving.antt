-- What arrivals tell of themselves, and what a call does to that.
use Rattle.std.specs.Prelude.{ℕ, List, Option, Some, None}
use Rattle.ch_io.specs.Counts.{Rose}
use Rattle.ch_net.specs.declared.arrivals.Arrival.{Arrival}

-- the connections that are left, where they are known, and how often none was here
pub record ArrivalsTold (C : Type 0) : Type 0 where
  pub left : Option (List (Arrival C))
  pub blanks : ℕ

module _ {A : Type 0} where
  -- none is here only where the count of blanks rose
  abbrev pub NoneHasCause : Option A → ℕ → ℕ → Type 0
  NoneHasCause None old new = Rose old new
  NoneHasCause (Some a) old new = Unit {0}
