-- The line ends of a head, and the bytes up to the last that it may have.
use Rattle.std.proofs.Common.{◌≡◌, ℕ, zero, suc, ◌+◌, ◌<◌, ◌≤◌, List, [], ◌∷◌, ◌++◌, length, take, get_or, Bool, true, false, cond, refl, ap, ◌∙◌, arith, append-nil}
use Rattle.std.specs.List.{count_by, flat_map}
use Rattle.std.proofs.lemmas.List.Sums.{sum_by-append, sum_by-cons}
use Rattle.httparse.specs.Grammar.{LineEnd, crlf, lf, print_end, print_blank, Field, print_field, print_section, RequestHead, print_request, print_version}
use Rattle.httparse.specs.Spans.{RequestExceeds}
use Rattle.ch_requests.specs.Heads.{is_line_end, first_lines}

abbrev pub lines : List ℕ → ℕ
lines bytes = count_by is_line_end bytes

pub lines-append : (xs ys : List ℕ) → lines (xs ++ ys) ≡ lines xs + lines ys
lines-append xs ys = sum_by-append (λ x. cond (is_line_end x) 1 0) xs ys

lines-print_end : (e : LineEnd) → lines (print_end e) ≡ 1
lines-print_end crlf = refl
lines-print_end lf = refl

lines-print_field : (f : Field) → 1 ≤ lines (print_field f)
lines-print_field f =
    let parts = lines-append (f.name ++ 58 ∷ f.raw) (print_end f.end) in
    let ends = lines-print_end f.end in
    omega (arith, parts, ends)

lines-fields : (fs : List Field) → length fs ≤ lines (flat_map print_field fs)
lines-fields [] = omega arith
lines-fields (f ∷ fs) =
    let parts = lines-append (print_field f) (flat_map print_field fs) in
    let first = lines-print_field f in
    let others = lines-fields fs in
    omega (arith, parts, first, others)

lines-print_request : (h : RequestHead) → length h.fields + 2 ≤ lines (print_request h)
unfolding print_request
lines-print_request h =
    let line = print_blank h.blank ++ h.method ++ 32 ∷ h.target ++ 32 ∷ print_version h.minor in
    let parts = lines-append (line ++ print_end h.line_end) (print_section h.fields h.last) in
    let first_line = lines-append line (print_end h.line_end) in
    let section = lines-append (flat_map print_field h.fields) (print_end h.last) in
    let fields = lines-fields h.fields in
    omega (arith, parts, first_line, section, lines-print_end h.line_end, lines-print_end h.last, fields)

-- a head that has more fields than there is room for has more line ends
pub lines-exceed : (room : ℕ) (w : List ℕ) → RequestExceeds room w → room < lines w
lines-exceed room w (front, rest, is, h, reads, over) =
    let parts : lines w ≡ lines front + lines rest = ap lines is ∙ lines-append front rest in
    let head : lines (front ++ 10 ∷ []) ≡ lines (print_request h) = ap lines (reads.1 ∙ append-nil (print_request h)) in
    let last : lines (front ++ 10 ∷ []) ≡ lines front + 1 = lines-append front (10 ∷ []) in
    let fields = lines-print_request h in
    omega (arith, parts, head, last, fields, over)

-- ---- the first lines

-- where there are fewer line ends, they are all bytes
pub first_lines_all : (n : ℕ) (xs : List ℕ) → lines xs < n → first_lines n xs ≡ xs
first_lines_all zero xs few = absurd (omega (arith, few))
first_lines_all (suc n) [] few = refl
first_lines_all (suc n) (b ∷ xs) few =
    let counted = sum_by-cons (λ x. cond (is_line_end x) 1 0) b xs in
    by (is_line_end b) (first_lines_all n xs) (first_lines_all (suc n) xs) (omega (arith, few, counted))
  where
    by : (ends : Bool) → (lines xs < n → first_lines n xs ≡ xs) → (lines xs < suc n → first_lines (suc n) xs ≡ xs)
        → cond ends 1 0 + lines xs < suc n → b ∷ first_lines (cond ends n (suc n)) xs ≡ b ∷ xs
    by true fewer same few = ap (λ l. b ∷ l) (fewer (omega (arith, few)))
    by false fewer same few = ap (λ l. b ∷ l) (same (omega (arith, few)))

-- otherwise they end with the last line end that counts
pub first_lines_end : (n i : ℕ) (xs : List ℕ) → n ≡ lines (take i xs) → i < length xs → is_line_end (get_or xs i 0) ≡ true
    → first_lines (suc n) xs ≡ take (suc i) xs
first_lines_end n i [] counted within ends = absurd (omega (arith, within))
first_lines_end n zero (b ∷ xs) counted within ends = rw (counted, ends) refl
first_lines_end n (suc i) (b ∷ xs) counted within ends =
    let sum = sum_by-cons (λ x. cond (is_line_end x) 1 0) b (take i xs) in
    by (is_line_end b) (first_lines_end (lines (take i xs)) i xs refl (omega (arith, within)) ends) (counted ∙ sum)
  where
    by : (last : Bool) → first_lines (suc (lines (take i xs))) xs ≡ take (suc i) xs → n ≡ cond last 1 0 + lines (take i xs)
        → b ∷ first_lines (cond last n (suc n)) xs ≡ b ∷ take (suc i) xs
    by true later sum =
        let one_more : n ≡ suc (lines (take i xs)) = omega (arith, sum) in
        ap (λ l. b ∷ l) (ap (λ k. first_lines k xs) one_more ∙ later)
    by false later sum =
        let same : n ≡ lines (take i xs) = omega (arith, sum) in
        ap (λ l. b ∷ l) (ap (λ k. first_lines (suc k) xs) same ∙ later)
