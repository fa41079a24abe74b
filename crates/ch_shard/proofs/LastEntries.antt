-- The last entries after one more.
use Rattle.std.proofs.Common.{◌≡◌, ℕ, zero, suc, ◌+◌, ◌-◌, ◌<◌, ◌≤◌, List, [], ◌∷◌, ◌++◌, map, drop, length, ap, sym, ◌∙◌, arith, length-append, length-drop}
use Rattle.std.proofs.lemmas.List.{map-append, length-map, drop-append-le, drop-map}
use Rattle.std.proofs.Math.Seq.{drop-nil}
use Rattle.circular_buffer.specs.Buffer.{keep_last}
use Rattle.ch_history.specs.Entries.{ChanEntry, ChanHistory}
use Rattle.ch_shard.specs.Tail.{brief_of, tail_of}
use Rattle.ch_history.specs.declared.limits.TheConstants.{LONGEST_TAIL}

drop_twice : {X : Type 0} (j k : ℕ) (xs : List X) → drop j (drop k xs) ≡ drop (k + j) xs
drop_twice j zero xs = let same : j ≡ 0 + j = omega arith in ap (λ n. drop n xs) same
drop_twice j (suc k) [] = drop-nil j ∙ sym (drop-nil (suc k + j))
drop_twice j (suc k) (x ∷ xs) = let same : suc (k + j) ≡ suc k + j = omega arith in drop_twice j k xs ∙ ap (λ n. drop n (x ∷ xs)) same

last-push : {X Y : Type 0} (f : X → Y) (m : ℕ) (xs : List X) (x : X) → 0 < m
    → keep_last m (map f (drop (length xs - m) xs) ++ f x ∷ []) ≡ map f (drop (length (xs ++ x ∷ []) - m) (xs ++ x ∷ []))
last-push f m xs x some =
    let k : ℕ = length xs - m in
    let ys = drop k xs in
    let j : ℕ = length (map f ys ++ f x ∷ []) - m in
    let n : ℕ = length (xs ++ x ∷ []) - m in
    let left : length ys ≡ length xs - k = length-drop k xs in
    let mapped : length (map f ys) ≡ length ys = length-map ys f in
    let longer : length (map f ys ++ f x ∷ []) ≡ length (map f ys) + 1 = length-append (map f ys) (f x ∷ []) in
    let whole : length (xs ++ x ∷ []) ≡ length xs + 1 = length-append xs (x ∷ []) in
    let within : j ≤ length (map f ys) = omega arith in
    let below : n ≤ length xs = omega arith in
    let same : k + j ≡ n = omega arith in
    drop-append-le j (map f ys) (f x ∷ []) within
    ∙ ap (λ zs. zs ++ f x ∷ []) (drop-map f j ys ∙ ap (map f) (drop_twice j k xs ∙ ap (λ i. drop i xs) same))
    ∙ sym (ap (map f) (drop-append-le n xs (x ∷ []) below) ∙ map-append f (drop n xs) (x ∷ []))

-- the last entries, and the new one
pub tail-push : (h : ChanHistory) (e : ChanEntry) → keep_last LONGEST_TAIL (tail_of h ++ brief_of e ∷ []) ≡ tail_of (h ++ e ∷ [])
tail-push h e = last-push brief_of LONGEST_TAIL h e (omega arith)
