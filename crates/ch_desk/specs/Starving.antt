-- A desk that is short of memory.
use Rattle.std.specs.Prelude.{◌≡◌, ◌+◌, ◌-◌, ◌^◌, ℕ, List, Contains, Result, IsErr, min}
use Rattle.ch_base.specs.declared.memory.Memory.{Memory}

-- a call whose number is refused finds no memory, and doesn't reach the desk below
abbrev pub IsRefused : {D A : Type 0} → List ℕ → ℕ → D → D → Result A Memory → Type 0
IsRefused refused number old new result = Contains refused number → (new ≡ old) × IsErr result

-- the number of the call that follows: one more, but for its type's end
abbrev pub next_number : ℕ → ℕ
next_number number = min (number + 1) (2 ^ 64 - 1)
