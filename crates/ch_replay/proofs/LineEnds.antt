-- How many lines end among bytes.
use Rattle.std.proofs.Common.{◌≡◌, ℕ, ◌+◌, Bool, true, false, refl, nat_eq, ◌||◌, List, [], ◌∷◌, ◌++◌, arith}
use Rattle.std.specs.Prelude.{cond}
use Rattle.std.proofs.lemmas.List.Sums.{sum_by-cons, sum_by-append}
use Rattle.ch_transcript.specs.Lines.{has_line_end}
use Rattle.ch_outcomes.specs.Answered.{line_ends}

-- one for a line end
counts : ℕ → ℕ
counts b = cond (nat_eq b 10) 1 0

none_begun : (t u : Bool) → (t || u) ≡ false → (◌≡◌ {A = ℕ} (cond t 1 0) 0) × (u ≡ false)
none_begun true u h = absurd (cc)
none_begun false u h = (refl, h)

pub no_line_ends : (line : List ℕ) → has_line_end line ≡ false → line_ends line ≡ 0
unfolding counts
no_line_ends [] none = refl
no_line_ends (b ∷ line) none =
    let both = none_begun (nat_eq b 10) (has_line_end line) none in
    omega (arith, sum_by-cons counts b line, both.0, no_line_ends line both.1)

-- one line more
pub line_ends_more : (done line rest : List ℕ) → has_line_end line ≡ false → line_ends (done ++ (line ++ 10 ∷ rest)) ≡ line_ends done + 1 + line_ends rest
unfolding counts
line_ends_more done line rest none =
    omega (arith, sum_by-append counts done (line ++ 10 ∷ rest), sum_by-append counts line (10 ∷ rest), sum_by-cons counts 10 rest, no_line_ends line none)
