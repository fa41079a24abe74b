-- The lines that are left.
use Rattle.std.proofs.Common.{◌≡◌, ◌≤◌, ◌<◌, ◌-◌, ◌+◌, ℕ, suc, ap, sym, ◌∙◌, arith, List, ◌++◌, drop, take, length, append_assoc}
use Rattle.std.proofs.lemmas.List.{drop_all}
use Rattle.ch_io.proofs.Pieces.{next_piece}
use Rattle.ch_transcript.specs.Printing.{line_end}
use Rattle.ch_soak.specs.Generator.{line_at, state_after, lines_from}

-- where lines are left, the first of them
lines_left : (lines i x : ℕ) → i < lines → lines_from (lines - i) i x ≡ line_at i x ++ line_end ++ lines_from (lines - (i + 1)) (i + 1) (state_after i x)
lines_left lines i x few =
    let count : lines - i ≡ suc (lines - (i + 1)) = omega (arith, few) in
    ap (λ n. lines_from n i x) count

-- a line that was given whole gives way to the next one
pub next_line : (lines i x given : ℕ) (old new : List ℕ) (y : ℕ) → i < lines → length old ≤ given → new ≡ line_at i x ++ line_end → y ≡ state_after i x
    → drop 0 new ++ lines_from (lines - (i + 1)) (i + 1) y ≡ drop given old ++ lines_from (lines - i) i x
next_line lines i x given old new y few whole is after =
    let rest : ℕ → List ℕ = λ z. lines_from (lines - (i + 1)) (i + 1) z in
    ap (λ z. z ++ rest y) is
    ∙ (ap (λ z. (line_at i x ++ line_end) ++ rest z) after
    ∙ (sym (lines_left lines i x few)
    ∙ ap (λ z. z ++ lines_from (lines - i) i x) (sym (drop_all given old whole))))

-- what is given of a line is taken off its front
pub given_on : (n given : ℕ) (line copied more rest : List ℕ) → copied ≡ take n (drop given line) → length copied ≡ n
    → drop given line ++ rest ≡ take n (copied ++ more) ++ (drop (given + n) line ++ rest)
given_on n given line copied more rest is size =
    ap (λ z. z ++ rest) (next_piece n given line copied more is size) ∙ append_assoc (take n (copied ++ more)) (drop (given + n) line) rest
