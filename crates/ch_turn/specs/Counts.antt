-- The histories of a tally.
use Rattle.std.specs.Prelude.{◌≡◌, ℕ, suc, List, [], ◌∷◌, ◌++◌}
use Rattle.ch_base.specs.declared.entry.Entry.{Entry}
use Rattle.ch_turn.specs.declared.tally.Add.{Add}

-- the answers are n, n + 1, ..
abbrev pub Counts : ℕ → List (Entry Add ℕ) → Type 0
Counts n [] = Unit {0}
Counts n (e ∷ es) = (e.answer ≡ n) × Counts (suc n) es

-- so are those of its beginnings
pub counts_prefix : (n : ℕ) (log more : List (Entry Add ℕ)) → Counts n (log ++ more) → Counts n log
counts_prefix n [] more h = tt
counts_prefix n (e ∷ es) more h = (h.0, counts_prefix (suc n) es more h.1)
