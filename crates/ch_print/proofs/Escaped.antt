-- Escaping, a run at a time.
use Rattle.std.proofs.Common.{◌≡◌, inl, inr, ℕ, suc, ◌+◌, ◌-◌, ◌<◌, ◌≤◌, List, [], ◌∷◌, ◌++◌, length, take, drop, get_or, append_assoc, true, false, refl, sym, ap, ap₂, ◌∙◌, subst, arith}
use Rattle.std.proofs.lemmas.List.{drop_more, take-append-drop, drop-drop, length-drop, get_or-take, get_or-drop, length-take, take-append-le}
use Rattle.std.proofs.lemmas.Bool.{cases_lt}
use Rattle.std.proofs.lemmas.Grind.{flat_map-append}
use Rattle.ch_base.specs.Escape.{escaped, escaped_byte, needs_escape}

pub escaped_plain : (x : ℕ) → needs_escape x ≡ false → escaped_byte x ≡ x ∷ []
unfolding escaped_byte
escaped_plain x h = grind arith

-- bytes that stand for themselves
pub escaped_run : (xs : List ℕ) → ((k : ℕ) → k < length xs → needs_escape (get_or xs k 0) ≡ false) → escaped xs ≡ xs
escaped_run [] h = refl
escaped_run (x ∷ xs) h = ap₂ (λ (a b : List ℕ). a ++ b) (escaped_plain x (h 0 (omega arith))) (escaped_run xs (λ k lt. h (suc k) (omega arith)))

-- the text from `from`, with a run that ends at i
pub escaped_split : (text : List ℕ) (from i : ℕ) → from ≤ i → i ≤ length text → ((k : ℕ) → from ≤ k → k < i → needs_escape (get_or text k 0) ≡ false) → escaped (drop from text) ≡ take (i - from) (drop from text) ++ escaped (drop i text)
escaped_split text from i le lt plain =
    let run : List ℕ = take (i - from) (drop from text) in
    let rest : drop (i - from) (drop from text) ≡ drop i text = let e : from + (i - from) ≡ i = omega arith in drop-drop (i - from) from text ∙ ap (λ k. drop k text) e in
    let whole : run ++ drop i text ≡ drop from text = ap (λ r. run ++ r) (sym rest) ∙ take-append-drop (i - from) (drop from text) in
    ap escaped (sym whole) ∙ flat_map-append escaped_byte run (drop i text) ∙ ap (λ r. r ++ escaped (drop i text)) (escaped_run run (λ k h. let short : k < i - from = omega (arith, length-take (i - from) (drop from text), length-drop from text) in let same : get_or run k 0 ≡ get_or text (from + k) 0 = get_or-take (i - from) (drop from text) k 0 short ∙ get_or-drop from text k 0 in subst (λ y. needs_escape y ≡ false) (sym same) (plain (from + k) (omega arith) (omega arith))))

pub escaped_next : (text : List ℕ) (i : ℕ) → i < length text → escaped (drop i text) ≡ escaped_byte (get_or text i 0) ++ escaped (drop (i + 1) text)
escaped_next text i h = ap escaped (drop_more text i 0 h)

-- what stood before stays in front
pub front_more : (old now more new : List ℕ) → take (length old) now ≡ old → new ≡ now ++ more → take (length old) new ≡ old
front_more old now more new h e =
    let len : length old ≤ length now = omega (arith, ap length h, length-take (length old) now) in
    ap (take (length old)) e ∙ take-append-le (length old) now more len ∙ h

-- a run and an escape are added
pub added_part : (text old now : List ℕ) (from i : ℕ) (mid new : List ℕ) → from ≤ i → i < length text → ((k : ℕ) → from ≤ k → k < i → needs_escape (get_or text k 0) ≡ false) → now ++ escaped (drop from text) ≡ old ++ escaped text
    → mid ≡ now ++ take (i - from) (drop from text) → new ≡ mid ++ escaped_byte (get_or text i 0) → new ++ escaped (drop (i + 1) text) ≡ old ++ escaped text
added_part text old now from i mid new le lt plain so_far e f =
    ap (λ l. l ++ escaped (drop (i + 1) text)) (f ∙ ap (λ l. l ++ escaped_byte (get_or text i 0)) e) ∙ append_assoc (now ++ take (i - from) (drop from text)) (escaped_byte (get_or text i 0)) _
    ∙ ap (λ l. (now ++ take (i - from) (drop from text)) ++ l) (sym (escaped_next text i lt)) ∙ append_assoc now _ _
    ∙ ap (λ l. now ++ l) (sym (escaped_split text from i le (omega arith) plain)) ∙ so_far

-- the last run
pub added_last : (text old now : List ℕ) (from : ℕ) (new : List ℕ) → from ≤ length text → ((k : ℕ) → from ≤ k → k < length text → needs_escape (get_or text k 0) ≡ false) → now ++ escaped (drop from text) ≡ old ++ escaped text
    → new ≡ now ++ drop from text → new ≡ old ++ escaped text
added_last text old now from new le plain so_far e =
    let run : escaped (drop from text) ≡ drop from text = escaped_run (drop from text) (λ k h. let w : from + k < length text = omega (arith, length-drop from text) in rw (get_or-drop) (plain (from + k) (omega arith) w)) in
    e ∙ ap (λ l. now ++ l) (sym run) ∙ so_far

pub special_ascii : (x : ℕ) → needs_escape x ≡ true → x < 128
special_ascii x h = elim (cases_lt x 128) [ inl k ↦ k | inr k ↦ absurd (cc (h, big x k)) ]
  where
    big : (y : ℕ) → 128 ≤ y → needs_escape y ≡ false
    big y k = grind arith

pub plain_more : (text : List ℕ) (from i : ℕ) → ((k : ℕ) → from ≤ k → k < i → needs_escape (get_or text k 0) ≡ false) → needs_escape (get_or text i 0) ≡ false → (k : ℕ) → from ≤ k → k < i + 1 → needs_escape (get_or text k 0) ≡ false
plain_more text from i below here k low high = elim (cases_lt k i) [ inl h ↦ below k low h | inr h ↦ let same : i ≡ k = omega arith in subst (λ y. needs_escape (get_or text y 0) ≡ false) same here ]

-- what stood in front of what stands in front
pub kept : (old now new : List ℕ) → take (length old) now ≡ old → take (length now) new ≡ now → take (length old) new ≡ old
kept old now new h k = front_more old now (drop (length now) new) new h (sym (take-append-drop (length now) new) ∙ ap (λ l. l ++ drop (length now) new) k)
