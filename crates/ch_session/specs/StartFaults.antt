-- Why a session wasn't opened.
use Rattle.std.specs.Prelude.{◌≡◌, ℕ, Option, Some}
use Rattle.ch_session.specs.declared.start_fault.StartFault.{StartFault}
use Rattle.ch_session.specs.declared.start_fault.StartFault.TheVariants.{Code, Memory}

-- the fault comes of this refusal of the target: its code, unless there was no memory
abbrev pub IsFaultOf : Option ℕ → StartFault → Type 0
IsFaultOf refusal (Code code) = refusal ≡ Some code
IsFaultOf refusal Memory = Unit {0}
