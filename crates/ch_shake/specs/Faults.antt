-- Why a handshake isn't accepted.
use Rattle.std.specs.Prelude.{◌≡◌, ℕ, List, Result, Err}
use Rattle.ch_shake.specs.declared.fault.HandshakeFault.{HandshakeFault}
use Rattle.ch_shake.specs.declared.fault.HandshakeFault.TheVariants.{Status, Memory}

-- the fault comes of this judgement of the head: its status, unless there was no memory
abbrev pub IsFaultOf : Result (List ℕ) ℕ → HandshakeFault → Type 0
IsFaultOf key (Status status) = key ≡ Err status
IsFaultOf key Memory = Unit {0}
