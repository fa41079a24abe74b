-- A tally serves one more call.
use Rattle.std.proofs.Common.{◌≡◌, ℕ, suc, ◌+◌, List, [], ◌∷◌, ◌++◌, length, ◌∙◌, arith}
use Rattle.ch_base.specs.declared.entry.Entry.{Entry}
use Rattle.ch_turn.specs.declared.tally.Add.{Add}
use Rattle.ch_turn.specs.Counts.{Counts}

pub counts_push : (n : ℕ) (log : List (Entry Add ℕ)) (e : Entry Add ℕ) → Counts n log → e.answer ≡ n + length log → Counts n (log ++ e ∷ [])
counts_push n [] e h is = ((is ∙ omega arith), tt)
counts_push n (x ∷ xs) e h is = (h.0, counts_push (suc n) xs e h.1 (is ∙ omega arith))
