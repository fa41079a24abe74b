-- A sink that keeps of the bytes only how many they are and their SHA-256.
use Rattle.std.specs.Prelude.{ℕ, List, map}
use Rattle.std.specs.declared.snapshot.Snapshot.{Snapshot}

-- the bytes that were shown
abbrev pub shown : List (Snapshot ℕ) → List ℕ
shown snapshots = map (λ s. s.value) snapshots
