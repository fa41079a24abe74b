-- The bytes among which a head is looked for, where more bytes follow.
use Rattle.std.proofs.Common.{◌≡◌, ℕ, zero, suc, ◌+◌, ◌≤◌, List, [], ◌∷◌, ◌++◌, length, take, Bool, true, false, cond, refl, ap, ◌∙◌, arith, ⊎_elim}
use Rattle.std.specs.List.{count_by}
use Rattle.std.specs.Prelude.{nat_le}
use Rattle.std.proofs.lemmas.Bool.{leb-true, or_cases}
use Rattle.std.proofs.lemmas.List.{length-take}
use Rattle.std.proofs.lemmas.List.Sums.{sum_by-cons}
use Rattle.ch_requests.specs.Heads.{first_bytes, first_lines, is_full, is_line_end}
use Rattle.ch_requests.specs.declared.limits.TheConstants.{LONGEST_HEAD, MOST_LINES}

-- ---- the first bytes go on where more follow

take_goes_on : (n : ℕ) (xs ys : List ℕ) → (more : List ℕ) × (take n (xs ++ ys) ≡ take n xs ++ more)
take_goes_on zero xs ys = ([], refl)
take_goes_on (suc n) [] ys = (take (suc n) ys, refl)
take_goes_on (suc n) (x ∷ xs) ys = let later = take_goes_on n xs ys in (later.0, ap (λ l. x ∷ l) later.1)

first_lines_goes_on : (n : ℕ) (xs ys : List ℕ) → (more : List ℕ) × (first_lines n (xs ++ ys) ≡ first_lines n xs ++ more)
first_lines_goes_on zero xs ys = ([], refl)
first_lines_goes_on (suc n) [] ys = (first_lines (suc n) ys, refl)
first_lines_goes_on (suc n) (b ∷ xs) ys =
    let later = first_lines_goes_on (cond (is_line_end b) n (suc n)) xs ys in (later.0, ap (λ l. b ∷ l) later.1)

pub first_bytes_goes_on : (bytes more : List ℕ) → (further : List ℕ) × (first_bytes (bytes ++ more) ≡ first_bytes bytes ++ further)
first_bytes_goes_on bytes more =
    let taken = take_goes_on LONGEST_HEAD bytes more in
    let lines = first_lines_goes_on MOST_LINES (take LONGEST_HEAD bytes) taken.0 in
    (lines.0, ap (first_lines MOST_LINES) taken.1 ∙ lines.1)

-- ---- they stay where they are full

take_stays : (n : ℕ) (xs ys : List ℕ) → n ≤ length (take n xs) → take n (xs ++ ys) ≡ take n xs
take_stays zero xs ys full = refl
take_stays (suc n) [] ys full = absurd (omega (arith, full))
take_stays (suc n) (x ∷ xs) ys full = ap (λ l. x ∷ l) (take_stays n xs ys (omega (arith, full)))

length-first_lines : (n : ℕ) (xs : List ℕ) → length (first_lines n xs) ≤ length xs
length-first_lines zero xs = omega arith
length-first_lines (suc n) [] = omega arith
length-first_lines (suc n) (b ∷ xs) =
    let later = length-first_lines (cond (is_line_end b) n (suc n)) xs in omega (arith, later)

one_line_stays : (n : ℕ) (b : ℕ) (xs ys : List ℕ) (ends : Bool)
    → (n ≤ count_by is_line_end (first_lines n xs) → first_lines n (xs ++ ys) ≡ first_lines n xs)
    → (suc n ≤ count_by is_line_end (first_lines (suc n) xs) → first_lines (suc n) (xs ++ ys) ≡ first_lines (suc n) xs)
    → suc n ≤ cond ends 1 0 + count_by is_line_end (first_lines (cond ends n (suc n)) xs)
    → b ∷ first_lines (cond ends n (suc n)) (xs ++ ys) ≡ b ∷ first_lines (cond ends n (suc n)) xs
one_line_stays n b xs ys true fewer same full = ap (λ l. b ∷ l) (fewer (omega (arith, full)))
one_line_stays n b xs ys false fewer same full = ap (λ l. b ∷ l) (same (omega (arith, full)))

first_lines_stays : (n : ℕ) (xs ys : List ℕ) → n ≤ count_by is_line_end (first_lines n xs) → first_lines n (xs ++ ys) ≡ first_lines n xs
first_lines_stays zero xs ys full = refl
first_lines_stays (suc n) [] ys full = absurd (omega (arith, full))
first_lines_stays (suc n) (b ∷ xs) ys full =
    let counted = sum_by-cons (λ x. cond (is_line_end x) 1 0) b (first_lines (cond (is_line_end b) n (suc n)) xs) in
    one_line_stays n b xs ys (is_line_end b) (first_lines_stays n xs ys) (first_lines_stays (suc n) xs ys)
    (omega (arith, full, counted))

-- once they are full, they stay whatever follows
pub first_bytes_stays : (bytes more : List ℕ) → is_full (first_bytes bytes) ≡ true → first_bytes (bytes ++ more) ≡ first_bytes bytes
first_bytes_stays bytes more full = ⊎_elim by_length by_lines (or_cases _ _ full)
  where
    by_length : nat_le LONGEST_HEAD (length (first_bytes bytes)) ≡ true → first_bytes (bytes ++ more) ≡ first_bytes bytes
    by_length long =
        let enough : LONGEST_HEAD ≤ length (first_bytes bytes) = leb-true _ _ long in
        let shorter = length-first_lines MOST_LINES (take LONGEST_HEAD bytes) in
        ap (first_lines MOST_LINES) (take_stays LONGEST_HEAD bytes more (omega (arith, enough, shorter)))

    by_lines : nat_le MOST_LINES (count_by is_line_end (first_bytes bytes)) ≡ true → first_bytes (bytes ++ more) ≡ first_bytes bytes
    by_lines many =
        let taken = take_goes_on LONGEST_HEAD bytes more in
        ap (first_lines MOST_LINES) taken.1 ∙ first_lines_stays MOST_LINES (take LONGEST_HEAD bytes) taken.0 (leb-true _ _ many)

pub length-first_bytes : (bytes : List ℕ) → length (first_bytes bytes) ≤ length bytes
length-first_bytes bytes =
    let lines = length-first_lines MOST_LINES (take LONGEST_HEAD bytes) in
    let taken = length-take LONGEST_HEAD bytes in
    omega (arith, lines, taken)
