-- A line that is written last.
use Rattle.std.proofs.Common.{◌≡◌, ℕ, sym, subst, inl, inr, List, length, take}
use Rattle.std.specs.Prelude.{Option, Result, Ok, Err, OnOk, OnErr}
use Rattle.std.specs.Io.KnownBytes.{Appends}
use Rattle.std.proofs.Math.Seq.{take-length}
use Rattle.ch_io.specs.Writes.{WritesLast}

pub WritesLast-from : {T E : Type 0} (line : List ℕ) (old new : Option (List ℕ)) (failed : Type 0) (r : Result T E) → OnOk r (Appends old new line)
    → OnErr r ((n : ℕ) × Appends old new (take n line)) → OnErr r failed → WritesLast line old new failed
WritesLast-from line old new failed (Ok x) ok err f =
    let P : List ℕ → Type 0 = λ z. Appends old new z in
    record { count = length line; gained = subst P (sym (take-length line)) ok; whole = inl (take-length line) }
WritesLast-from line old new failed (Err x) ok err f = record { count = err.0; gained = err.1; whole = inr f }
