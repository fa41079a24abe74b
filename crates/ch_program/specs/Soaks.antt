-- A soak, by its words.
use Rattle.std.specs.Prelude.{◌≡◌, ◌⊎◌, ℕ, List, Option}
use Rattle.ch_io.specs.Writes.{WritesLast}
use Rattle.ch_soak.specs.SoakText.{Breaks, Writes, usage_line}
use Rattle.ch_soak.specs.SoakWords.{AsksForNone}

-- The line that sums the soak up was written, or the status tells why it wasn't.
pub record Soaks (words : List (List ℕ)) (status : ℕ) (told_old told_new : Option (List ℕ)) (write_failed : Type 0) : Type 0 where
  pub statuses : (status ≡ 0) ⊎ (status ≡ 2) ⊎ (status ≡ 6) ⊎ (status ≡ 7)
  pub summed : status ≡ 0 → Writes words told_old told_new
  pub no_soak : status ≡ 2 → AsksForNone words
  pub asked : AsksForNone words → (status ≡ 2) ⊎ (status ≡ 7)
  pub usage : status ≡ 2 → WritesLast usage_line told_old told_new write_failed
  pub cut : status ≡ 6 → Breaks words told_old told_new
