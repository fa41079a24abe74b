-- The last ten moments tell whether one more is allowed, and which are the last ten after one more.
use Rattle.std.proofs.Common.{◌≡◌, ℕ, suc, ◌+◌, ◌-◌, ◌<◌, ◌≤◌, min, nat_lt, nat_le, inl, inr, List, [], ◌∷◌, ◌++◌, length, get_or, set, drop, take, sym, ◌∙◌, ap, arith, length-drop, length-append}
use Rattle.std.proofs.lemmas.List.{drop-append-le, get_or-drop, drop_more, set_at}
use Rattle.std.proofs.lemmas.Bool.{cases_lt}
use Rattle.std.proofs.lemmas.Bool.Decides.{nat_tests}
use Rattle.ch_rate.specs.Rate.{rate_allows, last_ten}

-- as many moments are kept as were accepted, at most ten
pub length-kept : (moments accepted : List ℕ) (kept : ℕ) → length moments ≡ 10 → kept ≤ 10
    → drop (10 - kept) moments ≡ last_ten accepted → kept ≡ length accepted - (length accepted - 10)
length-kept moments accepted kept ten most same =
    let lengths : length (drop (10 - kept) moments) ≡ length (last_ten accepted) = ap length same in
    omega (arith, simp length-drop at lengths)

-- where fewer than ten are kept, one more is allowed
pub rate_allows-few : (moments accepted : List ℕ) (kept now : ℕ) → length moments ≡ 10 → kept < 10
    → drop (10 - kept) moments ≡ last_ten accepted → nat_lt kept 10 ≡ rate_allows accepted now
rate_allows-few moments accepted kept now ten few same =
    let count = length-kept moments accepted kept ten (omega arith) same in
    let below : length accepted < 10 = omega arith in
    grind (arith, nat_tests)

-- where ten are kept, all places of the array are taken
pub kept_all : (moments accepted : List ℕ) (kept : ℕ) → kept ≡ 10
    → drop (10 - kept) moments ≡ last_ten accepted → moments ≡ last_ten accepted
kept_all moments accepted kept full same = sym (ap (λ k. drop (10 - k) moments) full) ∙ same

-- where ten are kept, the first of them is the tenth last that was accepted
pub rate_allows-ten : (moments accepted : List ℕ) (kept now : ℕ) → length moments ≡ 10 → kept ≡ 10
    → drop (10 - kept) moments ≡ last_ten accepted
    → nat_le 1000 (now - get_or moments 0 0) ≡ rate_allows accepted now
rate_allows-ten moments accepted kept now ten full same =
    let count = length-kept moments accepted kept ten (omega arith) same in
    let many : 10 ≤ length accepted = omega arith in
    let place : length accepted - 10 + 0 ≡ length accepted - 10 = omega arith in
    let first : get_or moments 0 0 ≡ get_or accepted (length accepted - 10) 0 =
    ap (λ xs. get_or xs 0 0) (kept_all moments accepted kept full same)
    ∙ get_or-drop (length accepted - 10) accepted 0 0
    ∙ ap (λ i. get_or accepted i 0) place in
    grind (arith, nat_tests)

-- without the oldest of ten, the last nine that were accepted are left
pub drop-last_ten : (x : ℕ) (xs accepted : List ℕ) → 10 ≤ length accepted → x ∷ xs ≡ last_ten accepted
    → xs ≡ drop (length accepted - 10 + 1) accepted
drop-last_ten x xs accepted many same =
    let parts = drop_more accepted (length accepted - 10) 0 (omega arith) in cc

-- what stays of the moments that are kept is what stays of those that were accepted, where all stay
pub drop-kept_few : (x : ℕ) (xs accepted : List ℕ) (kept : ℕ) → kept < 10 → length accepted < 10
    → drop (10 - kept) (x ∷ xs) ≡ last_ten accepted
    → drop (10 - min 10 (kept + 1)) xs ≡ drop (length accepted + 1 - 10) accepted
drop-kept_few x xs accepted kept few below same =
    let gap : 10 - kept ≡ suc (9 - kept) = omega arith in
    let free : 10 - min 10 (kept + 1) ≡ 9 - kept = omega arith in
    let none : length accepted - 10 ≡ length accepted + 1 - 10 = omega arith in
    ap (λ n. drop n xs) free ∙ sym (ap (λ n. drop n (x ∷ xs)) gap) ∙ same ∙ ap (λ n. drop n accepted) none

-- the same where the oldest goes
pub drop-kept_ten : (x : ℕ) (xs accepted : List ℕ) (kept : ℕ) → kept ≡ 10 → 10 ≤ length accepted
    → drop (10 - kept) (x ∷ xs) ≡ last_ten accepted
    → drop (10 - min 10 (kept + 1)) xs ≡ drop (length accepted + 1 - 10) accepted
drop-kept_ten x xs accepted kept full many same =
    let free : 10 - min 10 (kept + 1) ≡ 0 = omega arith in
    let next : length accepted - 10 + 1 ≡ length accepted + 1 - 10 = omega arith in
    ap (λ n. drop n xs) free
    ∙ drop-last_ten x xs accepted many (kept_all (x ∷ xs) accepted kept full same)
    ∙ ap (λ n. drop n accepted) next

-- the same in both cases
pub drop-kept : (x : ℕ) (xs accepted : List ℕ) (kept : ℕ) → length xs ≡ 9 → kept ≤ 10
    → drop (10 - kept) (x ∷ xs) ≡ last_ten accepted
    → drop (10 - min 10 (kept + 1)) xs ≡ drop (length accepted + 1 - 10) accepted
drop-kept x xs accepted kept nine most same =
    let ten : length (x ∷ xs) ≡ 10 = omega arith in
    let count = length-kept (x ∷ xs) accepted kept ten most same in
    elim (cases_lt kept 10) [
      | inl few ↦ drop-kept_few x xs accepted kept few (omega arith) same
      | inr full ↦ drop-kept_ten x xs accepted kept (omega arith) (omega arith) same
    ]

-- the last ten after one more are the last nine of what was kept, and it
pub last_ten-push : (moments turned accepted : List ℕ) (kept next now : ℕ) → length moments ≡ 10 → kept ≤ 10
    → drop (10 - kept) moments ≡ last_ten accepted → turned ≡ drop 1 moments ++ take 1 moments → next ≡ min 10 (kept + 1)
    → drop (10 - next) (set turned 9 now) ≡ last_ten (accepted ++ now ∷ [])
last_ten-push [] turned accepted kept next now ten most same turn more = absurd (omega arith)
last_ten-push (x ∷ xs) turned accepted kept next now ten most same turn more =
    let nine : length xs ≡ 9 = omega arith in
    let written : set turned 9 now ≡ xs ++ now ∷ [] = ap (λ ys. set ys 9 now) turn ∙ set_at xs x [] now 9 nine in
    let before = drop-append-le (10 - min 10 (kept + 1)) xs (now ∷ []) (omega arith) in
    let after = drop-append-le (length accepted + 1 - 10) accepted (now ∷ []) (omega arith) in
    let longer : length (accepted ++ now ∷ []) ≡ length accepted + 1 = length-append accepted (now ∷ []) in
    let stays = drop-kept x xs accepted kept nine most same in
    cc
