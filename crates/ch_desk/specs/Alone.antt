-- The history of a caller that is alone, caller 0: each call's entry is the next one.
use Rattle.std.specs.Prelude.{◌≡◌, ℕ, List, [], ◌∷◌, ◌++◌, Result, IfOk, OnOk, OnErr}
use Rattle.ch_base.specs.Growth.{entry}
use Rattle.ch_base.specs.declared.entry.Entry.{Entry}
use Rattle.ch_base.specs.declared.memory.Memory.{Memory}

module _ {C A : Type 0} (answer_of : List (Entry C A) → ℕ → C → A) where
  -- the call's entry is the next one of the history, with the definitions' answer; where there is no memory, the history stays
  pub record IsNext (old new : List (Entry C A)) (call : C) (result : Result A Memory) : Type 0 where
    pub answer : IfOk result (λ a. a ≡ answer_of old 0 call)
    pub grown : OnOk result (new ≡ old ++ entry 0 call (answer_of old 0 call) ∷ [])
    pub still : OnErr result (new ≡ old)
