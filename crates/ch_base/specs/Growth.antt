-- How the calls of a caller make a list of entries grow.
use Rattle.std.specs.Prelude.{◌≡◌, ◌≢◌, ℕ, List, [], ◌∷◌, ◌++◌, Result, Ok, Err}
use Rattle.ch_base.specs.declared.entry.Entry.{Entry}

module _ {C A : Type 0} where
  abbrev pub entry : ℕ → C → A → Entry C A
  entry caller call answer = record { caller = caller; call = call; answer = answer }

  -- no entry is of the caller i
  abbrev pub NotBy : ℕ → List (Entry C A) → Type 0
  NotBy i [] = Unit {0}
  NotBy i (e ∷ es) = (e.caller ≢ i) × NotBy i es

  -- the entry of a call, which is absent where there was no memory
  abbrev pub own : {M : Type 0} → ℕ → C → Result A M → List (Entry C A)
  own caller call (Ok answer) = entry caller call answer ∷ []
  own caller call (Err m) = []

  -- the list grows by entries of other callers, and then by the caller's own
  abbrev pub GrowsBy : {M : Type 0} → ℕ → C → Result A M → List (Entry C A) → List (Entry C A) → Type 0
  GrowsBy caller call result before after =
      (between : List (Entry C A)) × NotBy caller between × (after ≡ (before ++ between) ++ own caller call result)
