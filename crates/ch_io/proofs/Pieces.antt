-- A list in pieces.
use Rattle.std.proofs.Common.{◌≡◌, ℕ, ◌+◌, List, ◌++◌, length, take, drop, arith}
use Rattle.std.proofs.Math.Seq.{take-append_seam}
use Rattle.std.proofs.lemmas.List.{take-append-drop}
use Rattle.std.proofs.lemmas.Grind.{common_steps}

pub next_piece : (n at : ℕ) (bytes copied old : List ℕ) → copied ≡ take n (drop at bytes) → length copied ≡ n
    → drop at bytes ≡ take n (copied ++ old) ++ drop (at + n) bytes
next_piece n at bytes copied old is len = Prim.grind (arith, common_steps, take-append-drop n (drop at bytes), take-append_seam copied old)
