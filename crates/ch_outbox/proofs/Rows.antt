-- One more row at the end.
use Rattle.std.proofs.Common.{◌≡◌, ℕ, zero, suc, ◌≤◌, List, [], ◌∷◌, ◌++◌, refl, arith}
use Rattle.ch_outbox.specs.Outbox.{Waiting, frames_of, spare_of}

-- an empty row at the end changes no owner's frames, and no spare room falls
pub record Grows (old new : List Waiting) (w : ℕ) : Type 0 where
  pub frames : frames_of new w ≡ frames_of old w
  pub spare : spare_of old w ≤ spare_of new w

pub Grows-push : (rows : List Waiting) (row : Waiting) (w : ℕ) → row.frames ≡ [] → Grows rows (rows ++ row ∷ []) w
Grows-push [] row zero none = record { frames = none; spare = omega arith }
Grows-push [] row (suc w) none = record { frames = refl; spare = omega arith }
Grows-push (x ∷ xs) row zero none = record { frames = refl; spare = omega arith }
Grows-push (x ∷ xs) row (suc w) none = let rest = Grows-push xs row w none in record { frames = rest.frames; spare = rest.spare }
