-- Steps on a queue, in the order in which they were made.
use Rattle.std.specs.Prelude.{◌≡◌, ◌≢◌, ℕ, ◌<◌, List, [], ◌∷◌, ◌++◌, length, take, drop, All, slice_get, Some}
use Rattle.ch_intake.specs.declared.limits.TheConstants.{PLACES}
use Rattle.ch_intake.specs.declared.step.Step.{Step}
use Rattle.ch_intake.specs.declared.step.Step.TheVariants.{Push, Pop}

module _ {C : Type 0} where
  -- the items that were pushed
  abbrev pub items_pushed : List (Step C) → List C
  items_pushed [] = []
  items_pushed (Push caller item ∷ later) = item ∷ items_pushed later
  items_pushed (Pop caller item ∷ later) = items_pushed later

  -- the items that were popped
  abbrev pub items_popped : List (Step C) → List C
  items_popped [] = []
  items_popped (Push caller item ∷ later) = items_popped later
  items_popped (Pop caller item ∷ later) = item ∷ items_popped later

  -- the items that wait, first the one that has waited longest: those that were pushed, without as many as were popped
  abbrev pub items_waiting : List (Step C) → List C
  items_waiting steps = drop (length (items_popped steps)) (items_pushed steps)

  -- a step may come after these: an item is pushed where fewer than `PLACES` wait, and the first that waits is popped
  abbrev pub MayFollow : List (Step C) → Step C → Type 0
  MayFollow steps (Push caller item) = length (items_waiting steps) < PLACES
  MayFollow steps (Pop caller item) = slice_get (items_waiting steps) 0 ≡ Some item

  -- each step may come after those before it
  abbrev pub IsLegal : List (Step C) → Type 0
  IsLegal steps = (k : ℕ) (s : Step C) → slice_get steps k ≡ Some s → MayFollow (take k steps) s

  -- whose step it is
  abbrev pub caller_of : Step C → ℕ
  caller_of (Push caller item) = caller
  caller_of (Pop caller item) = caller

  -- no step is of this caller
  abbrev pub NotBy : ℕ → List (Step C) → Type 0
  NotBy caller steps = All (λ s. caller_of s ≢ caller) steps

  -- the order goes on by steps of other callers alone
  abbrev pub GrowsByOthers : ℕ → List (Step C) → List (Step C) → Type 0
  GrowsByOthers caller before after = (more : List (Step C)) × NotBy caller more × (after ≡ before ++ more)

  -- the order goes on by steps of other callers, and then by this one
  abbrev pub GrowsBy : Step C → List (Step C) → List (Step C) → Type 0
  GrowsBy s before after =
      (until : List (Step C)) × GrowsByOthers (caller_of s) before until × (after ≡ until ++ s ∷ [])

  -- after this caller's last step, and before any further one, there was a moment at which so many items waited
  abbrev pub HeldOnce : ℕ → ℕ → List (Step C) → Type 0
  HeldOnce n caller seen =
      (then : List (Step C)) × GrowsByOthers caller seen then × IsLegal then × (length (items_waiting then) ≡ n)
