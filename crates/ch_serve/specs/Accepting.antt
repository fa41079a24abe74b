-- How connections come in and are numbered.
use Rattle.std.specs.Prelude.{◌≡◌, ◌+◌, ◌<◌, ◌≤◌, ◌==◌, ℕ, List, [], ◌∷◌, map, All, if◌then◌else◌}
use Rattle.ch_intake.specs.declared.limits.TheConstants.{PLACES}
use Rattle.ch_intake.specs.declared.step.Step.{Step}
use Rattle.ch_intake.specs.declared.step.Step.TheVariants.{Push, Pop}
use Rattle.ch_intake.specs.Orders.{GrowsBy, HeldOnce}
use Rattle.ch_intake.specs.PassModels.{PassModel}
use Rattle.ch_serve.specs.declared.numbered.Numbered.{Numbered}

-- what the accepting thread has done: the steps on the intake that it has seen, its own among them, and how many connections
-- it has numbered
pub record Door (L : Type 0) : Type 0 where
  pub seen : List (Step (Numbered L))
  pub numbered : ℕ

-- what a call of accept comes to: no connection, one that waits in the intake, or one that is closed
pub data Came (L : Type 0) : Type 0 where
  nobody : Came L
  waits : Numbered L → Came L
  closed : Came L

module _ {L : Type 0} where
  abbrev pub door : PassModel (Numbered L) → ℕ → Door L
  door pass numbered = record { seen = pass.seen; numbered = numbered }

  -- A connection has the next number. It waits in the intake from a step of this caller on, or it is closed where the intake was
  -- full at one.
  abbrev pub Comes : ℕ → Came L → Door L → Door L → Type 0
  Comes caller nobody old new = new ≡ old
  Comes caller (waits item) old new = (item.arrival.number ≡ old.numbered + 1) × (new.numbered ≡ old.numbered + 1)
      × GrowsBy (Push caller item) old.seen new.seen
  Comes caller closed old new = (new.numbered ≡ old.numbered + 1) × (new.seen ≡ old.seen) × HeldOnce PLACES caller old.seen

  -- the same of several calls, one after another
  abbrev pub AllCome : ℕ → List (Came L) → Door L → Door L → Type 0
  AllCome caller [] old new = new ≡ old
  AllCome caller (c ∷ cs) old new = (next : Door L) × Comes caller c old next × AllCome caller cs next new

  -- ---- the numbers

  -- the connections that a caller put into the intake
  abbrev pub put_by : ℕ → List (Step (Numbered L)) → List (Numbered L)
  put_by caller [] = []
  put_by caller (Push by item ∷ steps) = if by == caller then item ∷ put_by caller steps else put_by caller steps
  put_by caller (Pop by item ∷ steps) = put_by caller steps

  abbrev pub numbers_by : ℕ → List (Step (Numbered L)) → List ℕ
  numbers_by caller steps = map (λ x. x.arrival.number) (put_by caller steps)

-- each number is above the one before it, and the first above n
abbrev pub AscendFrom : ℕ → List ℕ → Type 0
AscendFrom n [] = Unit {0}
AscendFrom n (x ∷ xs) = (n < x) × AscendFrom x xs

-- The connections that an accepting thread puts into the intake have ascending numbers from 1, so none comes twice, and at
-- most as many as it numbered.
abbrev pub AreNumberedOnce : Type 0 → Type 0
AreNumberedOnce L = (caller : ℕ) (cs : List (Came L)) (old new : Door L) → AllCome caller cs old new → old.seen ≡ [] → old.numbered ≡ 0
    → AscendFrom 0 (numbers_by caller new.seen) × All (λ n. n ≤ new.numbered) (numbers_by caller new.seen)
