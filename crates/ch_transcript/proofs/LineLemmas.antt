-- Lines of bytes that end in a line end, or don't.
use Rattle.std.proofs.Common.{◌≡◌, ℕ, Bool, true, false, ◌||◌, nat_eq, ◌<◌, ◌∙◌, ap, refl, List, [], ◌∷◌, ◌++◌, length, cond, arith}
use Rattle.ch_transcript.specs.Lines.{has_line_end, onto_first, lines_of, whole_lines}

or_left : (a b : Bool) → (a || b) ≡ false → a ≡ false
or_left true b h = h
or_left false b h = refl

or_right : (a b : Bool) → (a || b) ≡ false → b ≡ false
or_right true b h = absurd (cc)
or_right false b h = h

or_true : (a : Bool) → (a || true) ≡ true
or_true true = refl
or_true false = refl

-- a line and its line end come off the front
pub lines_of-line : (line rest : List ℕ) → has_line_end line ≡ false → lines_of (line ++ 10 ∷ rest) ≡ line ∷ lines_of rest
lines_of-line [] rest none = refl
lines_of-line (b ∷ line) rest none =
    ap (λ (t : Bool). cond t ([] ∷ lines_of (line ++ 10 ∷ rest)) (onto_first b (lines_of (line ++ 10 ∷ rest)))) (or_left (nat_eq b 10) (has_line_end line) none)
    ∙ ap (onto_first b) (lines_of-line line rest (or_right (nat_eq b 10) (has_line_end line) none))

-- bytes without a line end are the beginning of the first line
pub lines_of-begun : (b : ℕ) (line more : List ℕ) → has_line_end (b ∷ line) ≡ false
    → (first : List ℕ) × (others : List (List ℕ)) × (lines_of (b ∷ line ++ more) ≡ (b ∷ line ++ first) ∷ others)
lines_of-begun b [] more none =
    let e : lines_of (b ∷ more) ≡ onto_first b (lines_of more) = ap (λ (t : Bool). cond t ([] ∷ lines_of more) (onto_first b (lines_of more))) (or_left (nat_eq b 10) false none) in
    elim (lines_of more) as (λ (ls : List (List ℕ)). lines_of (b ∷ more) ≡ onto_first b ls → (first : List ℕ) × (others : List (List ℕ)) × (lines_of (b ∷ more) ≡ (b ∷ first) ∷ others))
    [ [] ↦ λ h. ([], [], h) | l ∷ ls ↦ λ h. (l, ls, h) ] e
lines_of-begun b (d ∷ line) more none =
    let deep = lines_of-begun d line more (or_right (nat_eq b 10) (has_line_end (d ∷ line)) none) in (
      deep.0,
      deep.1,
      ap (λ (t : Bool). cond t ([] ∷ lines_of (d ∷ line ++ more)) (onto_first b (lines_of (d ∷ line ++ more)))) (or_left (nat_eq b 10) (has_line_end (d ∷ line)) none)
          ∙ ap (onto_first b) deep.2,
    )

pub lines_of-last : (line : List ℕ) → has_line_end line ≡ false → 0 < length line → lines_of line ≡ line ∷ []
lines_of-last [] none some = absurd (omega arith)
lines_of-last (b ∷ []) none some = ap (λ (t : Bool). cond t ([] ∷ []) ((b ∷ []) ∷ [])) (or_left (nat_eq b 10) false none)
lines_of-last (b ∷ d ∷ line) none some =
    ap (λ (t : Bool). cond t ([] ∷ lines_of (d ∷ line)) (onto_first b (lines_of (d ∷ line)))) (or_left (nat_eq b 10) (has_line_end (d ∷ line)) none)
    ∙ ap (onto_first b) (lines_of-last (d ∷ line) (or_right (nat_eq b 10) (has_line_end (d ∷ line)) none) (omega arith))

pub has_line_end-end : (line rest : List ℕ) → has_line_end (line ++ 10 ∷ rest) ≡ true
has_line_end-end [] rest = refl
has_line_end-end (b ∷ line) rest = ap (λ (t : Bool). nat_eq b 10 || t) (has_line_end-end line rest) ∙ or_true (nat_eq b 10)

pub whole_lines-end : (line rest : List ℕ) → whole_lines (line ++ 10 ∷ rest) ≡ line ++ 10 ∷ whole_lines rest
whole_lines-end [] rest = refl
whole_lines-end (b ∷ line) rest =
    ap (λ (t : Bool). cond t (b ∷ whole_lines (line ++ 10 ∷ rest)) []) (has_line_end-end (b ∷ line) rest)
    ∙ ap (λ (xs : List ℕ). b ∷ xs) (whole_lines-end line rest)

pub whole_lines-none : (line : List ℕ) → has_line_end line ≡ false → whole_lines line ≡ []
whole_lines-none [] none = refl
whole_lines-none (b ∷ line) none = ap (λ (t : Bool). cond t (b ∷ whole_lines line) []) none
