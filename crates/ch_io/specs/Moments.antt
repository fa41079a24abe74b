-- What a clock gives.
use Rattle.std.specs.Prelude.{◌≡◌, ℕ, List, [], ◌∷◌, Option, Some, None}

-- the clock gives the first of the moments that are known to come, and loses it; where none is known to come it stays so
abbrev pub GivesMoment : Option (List ℕ) → ℕ → Option (List ℕ) → Type 0
GivesMoment None moment new = new ≡ None
GivesMoment (Some []) moment new = new ≡ Some []
GivesMoment (Some (m ∷ later)) moment new = (moment ≡ m) × (new ≡ Some later)
