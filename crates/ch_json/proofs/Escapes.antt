-- The escapes of a string, by their places.
use Rattle.std.proofs.Common.{◌≡◌, inl, inr, ℕ, zero, suc, ◌+◌, ◌-◌, ◌*◌, ◌<◌, ◌≤◌, List, [], ◌∷◌, ◌++◌, length, length-append, take, drop, get_or, Bool, true, false, not, ◌&&◌, ◌||◌, ◌==◌, refl, sym, ap, ap₂, ◌∙◌, subst, arith}
use Rattle.std.specs.Prelude.{flat_map, IsUtf8}
use Rattle.std.specs.Char.{encode_utf8, InScalarRange}
use Rattle.std.specs.List.{slice_range}
use Rattle.std.specs.Str.{IsCharBoundary}
use Rattle.std.proofs.lemmas.Str.{IsCharBoundary-after_ascii, IsCharBoundary-before_ascii, IsCharBoundary-end, encode_ascii}
use Rattle.std.proofs.lemmas.Bool.{and_parts, cases_lt}
use Rattle.std.proofs.lemmas.List.{drop-drop, length-drop, get_or-drop, drop_all}
use Rattle.ch_base.specs.JsonText.{is_hex, is_d, is_8_to_b, is_c_to_f, is_short, Char, byte, short, unit, pair, is_char, Chars, short_value, hex_value, char_bytes}
use Rattle.ch_json.specs.Pieces.{GoesOn, AreHex}
use Rattle.ch_json.proofs.Lists.{drop_front}
use Rattle.ch_json.proofs.OneText.{no_quote, no_backslash}
use Rattle.ch_json.proofs.Digits.{d_is_hex, unit_scalar, IsPairOf, pair_values}

-- ---- a part at a place

-- the bytes u stand at `at`, and m follows them
behind : (bs u m : List ℕ) (at : ℕ) → drop at bs ≡ u ++ m → drop (at + length u) bs ≡ m
behind bs u m at e = sym (drop-drop (length u) at bs) ∙ ap (drop (length u)) e ∙ drop_front u m

fits : (bs u m : List ℕ) (at : ℕ) → 0 < length u → drop at bs ≡ u ++ m → at + length u ≤ length bs
fits bs u m at some e = omega (arith, length-drop at bs, ap length e, length-append u m)

look : (bs l : List ℕ) (at k j : ℕ) → drop at bs ≡ l → j ≡ at + k → get_or bs j 0 ≡ get_or l k 0
look bs l at k j e f = ap (λ i. get_or bs i 0) f ∙ sym (get_or-drop at bs k 0) ∙ ap (λ y. get_or y k 0) e

-- these four bytes stand at i
pub record Four (bs : List ℕ) (i a b c d : ℕ) : Type 0 where
  pub first : get_or bs i 0 ≡ a
  pub second : get_or bs (i + 1) 0 ≡ b
  pub third : get_or bs (i + 2) 0 ≡ c
  pub fourth : get_or bs (i + 3) 0 ≡ d

-- ---- which escape it is

pub data Escaped (bs : List ℕ) (at : ℕ) : List Char → Type 0 where
  a_short : (x : ℕ) (cs : List Char) → get_or bs (at + 1) 0 ≡ x → is_short x ≡ true → at + 2 ≤ length bs → Chars cs (drop (at + 2) bs) [] → Escaped bs at (short x ∷ cs)
  a_unit : (a b c d : ℕ) (cs : List Char) → get_or bs (at + 1) 0 ≡ 117 → Four bs (at + 2) a b c d → is_char (unit a b c d) ≡ true → at + 6 ≤ length bs → get_or bs (at + 5) 0 ≡ d → Chars cs (drop (at + 6) bs) [] → Escaped bs at (unit a b c d ∷ cs)
  a_pair : (a b c d e f g h : ℕ) (cs : List Char) → get_or bs (at + 1) 0 ≡ 117 → Four bs (at + 2) a b c d → Four bs (at + 8) e f g h → is_char (pair a b c d e f g h) ≡ true → at + 12 ≤ length bs → get_or bs (at + 11) 0 ≡ h → Chars cs (drop (at + 12) bs) []
      → Escaped bs at (pair a b c d e f g h ∷ cs)

slash_no_quote : ◌≡◌ {A = ℕ} 92 34 → ⊥
slash_no_quote e = let k : (92 == 34) ≡ true = subst (λ y. (92 == y) ≡ true) e refl in cc k

pub escaped_at : (bs : List ℕ) (at : ℕ) (cs : List Char) → get_or bs at 0 ≡ 92 → Chars cs (drop at bs) [] → Escaped bs at cs
escaped_at bs at [] slash e = absurd (slash_no_quote (sym slash ∙ look bs (34 ∷ []) at 0 at e (omega arith)))
escaped_at bs at (byte x ∷ cs) slash (is, (m, e, more)) = absurd (no_backslash x is (sym (look bs (x ∷ m) at 0 at e (omega arith)) ∙ slash))
escaped_at bs at (short x ∷ cs) slash (is, (m, e, more)) =
    a_short x cs (look bs (92 ∷ x ∷ m) at 1 (at + 1) e refl) is (fits bs (92 ∷ x ∷ []) m at (omega arith) e) (subst (λ y. Chars cs y []) (sym (behind bs (92 ∷ x ∷ []) m at e)) more)
escaped_at bs at (unit a b c d ∷ cs) slash (is, (m, e, more)) =
    let l : List ℕ = 92 ∷ 117 ∷ a ∷ b ∷ c ∷ d ∷ m in
    a_unit a b c d cs (look bs l at 1 (at + 1) e refl)
    (record { first = look bs l at 2 (at + 2) e refl; second = look bs l at 3 (at + 2 + 1) e (omega arith); third = look bs l at 4 (at + 2 + 2) e (omega arith); fourth = look bs l at 5 (at + 2 + 3) e (omega arith) }) is
    (fits bs (92 ∷ 117 ∷ a ∷ b ∷ c ∷ d ∷ []) m at (omega arith) e) (look bs l at 5 (at + 5) e refl) (subst (λ y. Chars cs y []) (sym (behind bs (92 ∷ 117 ∷ a ∷ b ∷ c ∷ d ∷ []) m at e)) more)
escaped_at bs at (pair a b c d x f g h ∷ cs) slash (is, (m, e, more)) =
    let u : List ℕ = 92 ∷ 117 ∷ a ∷ b ∷ c ∷ d ∷ 92 ∷ 117 ∷ x ∷ f ∷ g ∷ h ∷ [] in
    let l : List ℕ = 92 ∷ 117 ∷ a ∷ b ∷ c ∷ d ∷ 92 ∷ 117 ∷ x ∷ f ∷ g ∷ h ∷ m in
    a_pair a b c d x f g h cs (look bs l at 1 (at + 1) e refl)
    (record { first = look bs l at 2 (at + 2) e refl; second = look bs l at 3 (at + 2 + 1) e (omega arith); third = look bs l at 4 (at + 2 + 2) e (omega arith); fourth = look bs l at 5 (at + 2 + 3) e (omega arith) })
    (record { first = look bs l at 8 (at + 8) e refl; second = look bs l at 9 (at + 8 + 1) e (omega arith); third = look bs l at 10 (at + 8 + 2) e (omega arith); fourth = look bs l at 11 (at + 8 + 3) e (omega arith) }) is
    (fits bs u m at (omega arith) e) (look bs l at 11 (at + 11) e refl) (subst (λ y. Chars cs y []) (sym (behind bs u m at e)) more)

-- ---- what the code asks

no_letter : (x : ℕ) → is_short x ≡ true → x ≡ 117 → ⊥
no_letter x h e = let k = subst (λ y. is_short y ≡ true) e h in cc k

pub letter_inside : (bs : List ℕ) (at : ℕ) (cs : List Char) → Escaped bs at cs → at + 1 < length bs
letter_inside bs at cs (a_short x ds e is len h) = omega arith
letter_inside bs at cs (a_unit a b c d ds e f is len z h) = omega arith
letter_inside bs at cs (a_pair a b c d x f g y ds e u v is len z h) = omega arith

pub short_letter : (bs : List ℕ) (at : ℕ) (cs : List Char) → Escaped bs at cs → (get_or bs (at + 1) 0 ≡ 117 → ⊥) → is_short (get_or bs (at + 1) 0) ≡ true
short_letter bs at cs (a_short x ds e is len h) ne = subst (λ y. is_short y ≡ true) (sym e) is
short_letter bs at cs (a_unit a b c d ds e f is len z h) ne = absurd (ne e)
short_letter bs at cs (a_pair a b c d x f g y ds e u v is len z h) ne = absurd (ne e)

pub unit_inside : (bs : List ℕ) (at : ℕ) (cs : List Char) → Escaped bs at cs → get_or bs (at + 1) 0 ≡ 117 → at + 6 ≤ length bs
unit_inside bs at cs (a_short x ds e is len h) u = absurd (no_letter x is (sym e ∙ u))
unit_inside bs at cs (a_unit a b c d ds e f is len z h) u = len
unit_inside bs at cs (a_pair a b c d x f g y ds e v w is len z h) u = omega arith

four_hex : (bs : List ℕ) (i a b c d : ℕ) → Four bs i a b c d → is_hex a ≡ true → is_hex b ≡ true → is_hex c ≡ true → is_hex d ≡ true → AreHex bs i
four_hex bs i a b c d f ha hb hc hd = record {
  first = subst (λ y. is_hex y ≡ true) (sym f.first) ha;
  second = subst (λ y. is_hex y ≡ true) (sym f.second) hb;
  third = subst (λ y. is_hex y ≡ true) (sym f.third) hc;
  fourth = subst (λ y. is_hex y ≡ true) (sym f.fourth) hd;
}

high_is_hex : (x : ℕ) → is_8_to_b x ≡ true → is_hex x ≡ true
high_is_hex x h = grind arith

low_is_hex : (x : ℕ) → is_c_to_f x ≡ true → is_hex x ≡ true
low_is_hex x h = grind arith

pub unit_hex : (bs : List ℕ) (at : ℕ) (cs : List Char) → Escaped bs at cs → get_or bs (at + 1) 0 ≡ 117 → AreHex bs (at + 2)
unit_hex bs at cs (a_short x ds e is len h) u = absurd (no_letter x is (sym e ∙ u))
unit_hex bs at cs (a_unit a b c d ds e f is len z h) u =
    let p = and_parts _ _ is in
    let q = and_parts _ _ p.1 in
    let r = and_parts _ _ q.1 in
    four_hex bs (at + 2) a b c d f (and_parts _ _ p.0).0 q.0 r.0 r.1
unit_hex bs at cs (a_pair a b c d x f g y ds e v w is len z h) u =
    let p = and_parts _ _ is in
    let ab = and_parts _ _ p.0 in
    let cd = and_parts _ _ (and_parts _ _ p.1).0 in
    four_hex bs (at + 2) a b c d v (d_is_hex a ab.0) (high_is_hex b ab.1) cd.0 cd.1

-- the four digits as a number
abbrev pub value_at : List ℕ → ℕ → ℕ
value_at bs i = hex_value (get_or bs i 0) (get_or bs (i + 1) 0) (get_or bs (i + 2) 0) (get_or bs (i + 3) 0)

four_value : (bs : List ℕ) (i a b c d : ℕ) → Four bs i a b c d → value_at bs i ≡ hex_value a b c d
four_value bs i a b c d f =
    ap (λ y. hex_value y (get_or bs (i + 1) 0) (get_or bs (i + 2) 0) (get_or bs (i + 3) 0)) f.first ∙ ap (λ y. hex_value a y (get_or bs (i + 2) 0) (get_or bs (i + 3) 0)) f.second
    ∙ ap (λ y. hex_value a b y (get_or bs (i + 3) 0)) f.third ∙ ap (λ y. hex_value a b c y) f.fourth

-- the digits at i are those of a high surrogate
abbrev pub is_high : List ℕ → ℕ → Bool
is_high bs i = is_d (get_or bs i 0) && is_8_to_b (get_or bs (i + 1) 0)

four_high : (bs : List ℕ) (i a b c d : ℕ) → Four bs i a b c d → is_high bs i ≡ (is_d a && is_8_to_b b)
four_high bs i a b c d f = ap (λ y. is_d y && is_8_to_b (get_or bs (i + 1) 0)) f.first ∙ ap (λ y. is_d a && is_8_to_b y) f.second

unit_no_high : (a b c d : ℕ) → is_char (unit a b c d) ≡ true → (is_d a && is_8_to_b b) ≡ false
unit_no_high a b c d is = choose (is_d a) (is_8_to_b b) (is_c_to_f b) (and_parts _ _ (and_parts _ _ is).0).1
  where
    choose : (x y z : Bool) → not (x && (y || z)) ≡ true → (x && y) ≡ false
    choose true true z h = sym h
    choose true false z h = refl
    choose false y z h = refl

pair_high : (a b c d e f g h : ℕ) → is_char (pair a b c d e f g h) ≡ true → (is_d a && is_8_to_b b) ≡ true
pair_high a b c d e f g h is = (and_parts _ _ is).0

pub one_scalar : (bs : List ℕ) (at : ℕ) (cs : List Char) → Escaped bs at cs → get_or bs (at + 1) 0 ≡ 117 → is_high bs (at + 2) ≡ false → InScalarRange (value_at bs (at + 2))
one_scalar bs at cs (a_short x ds e is len h) u other = absurd (no_letter x is (sym e ∙ u))
one_scalar bs at cs (a_unit a b c d ds e f is len z h) u other = subst InScalarRange (sym (four_value bs (at + 2) a b c d f)) (unit_scalar a b c d is)
one_scalar bs at cs (a_pair a b c d x f g y ds e v w is len z h) u other = absurd (let k = sym other ∙ four_high bs (at + 2) a b c d v ∙ pair_high a b c d x f g y is in cc k)

-- the second half of a pair
pub record IsLow (bs : List ℕ) (at : ℕ) : Type 0 where
  pub inside : at + 12 ≤ length bs
  pub hex : AreHex bs (at + 8)
  pub numbers : IsPairOf (value_at bs (at + 2)) (value_at bs (at + 8))

pub low_half : (bs : List ℕ) (at : ℕ) (cs : List Char) → Escaped bs at cs → get_or bs (at + 1) 0 ≡ 117 → is_high bs (at + 2) ≡ true → IsLow bs at
low_half bs at cs (a_short x ds e is len h) u high = absurd (no_letter x is (sym e ∙ u))
low_half bs at cs (a_unit a b c d ds e f is len z h) u high = absurd (let k = sym high ∙ four_high bs (at + 2) a b c d f ∙ unit_no_high a b c d is in cc k)
low_half bs at cs (a_pair a b c d x f g y ds e v w is len z h) u high =
    let r = and_parts _ _ (and_parts _ _ (and_parts _ _ is).1).1 in
    let ef = and_parts _ _ r.0 in
    let gh = and_parts _ _ r.1 in
    record {
      inside = len;
      hex = four_hex bs (at + 8) x f g y w (d_is_hex x ef.0) (low_is_hex f ef.1) gh.0 gh.1;
      numbers = subst (λ i. IsPairOf i (value_at bs (at + 8))) (sym (four_value bs (at + 2) a b c d v)) (subst (λ i. IsPairOf (hex_value a b c d) i) (sym (four_value bs (at + 8) x f g y w)) (pair_values a b c d x f g y is));
    }

-- ---- the pieces

after_small : (bs : List ℕ) (i j : ℕ) (x : ℕ) → IsUtf8 bs → i < length bs → get_or bs i 0 ≡ x → x < 128 → j ≡ i + 1 → IsCharBoundary bs j
after_small bs i j x utf8 inside e small f = subst (IsCharBoundary bs) (sym f) (IsCharBoundary-after_ascii bs i utf8 inside (subst (λ y. y < 128) (sym e) small))

hex_ascii : (x : ℕ) → is_hex x ≡ true → x < 128
hex_ascii x h = grind arith

short_ascii : (x : ℕ) → is_short x ≡ true → x < 128
short_ascii x h = grind arith

pub short_piece : (bs : List ℕ) (at : ℕ) (cs : List Char) (ch : ℕ) → IsUtf8 bs → Escaped bs at cs → (get_or bs (at + 1) 0 ≡ 117 → ⊥) → ch ≡ short_value (get_or bs (at + 1) 0) → ch < 128 → GoesOn bs at cs (at + 2) (encode_utf8 ch)
short_piece bs at cs ch utf8 (a_short x ds e is len h) ne same small =
    let value : ch ≡ short_value x = same ∙ ap short_value e in
    record {
      ahead = omega arith;
      within = len;
      boundary = after_small bs (at + 1) (at + 2) x utf8 (omega arith) e (short_ascii x is) (omega arith);
      rest = ds;
      follow = h;
      says = ap (λ (y : List ℕ). y ++ flat_map char_bytes ds) (sym (encode_ascii ch small ∙ ap (λ y. y ∷ []) value));
    }
short_piece bs at cs ch utf8 (a_unit a b c d ds e f is len z h) ne same small = absurd (ne e)
short_piece bs at cs ch utf8 (a_pair a b c d x f g y ds e u v is len z h) ne same small = absurd (ne e)

pub unit_piece : (bs : List ℕ) (at : ℕ) (cs : List Char) (ch : ℕ) → IsUtf8 bs → Escaped bs at cs → get_or bs (at + 1) 0 ≡ 117 → is_high bs (at + 2) ≡ false → ch ≡ value_at bs (at + 2) → GoesOn bs at cs (at + 6) (encode_utf8 ch)
unit_piece bs at cs ch utf8 (a_short x ds e is len h) u other same = absurd (no_letter x is (sym e ∙ u))
unit_piece bs at cs ch utf8 (a_unit a b c d ds e f is len z h) u other same = record {
  ahead = omega arith;
  within = len;
  boundary = after_small bs (at + 5) (at + 6) d utf8 (omega arith) z (hex_ascii d (subst (λ k. is_hex k ≡ true) f.fourth (unit_hex bs at (unit a b c d ∷ ds) (a_unit a b c d ds e f is len z h) u).fourth)) (omega arith);
  rest = ds;
  follow = h;
  says = ap (λ y. encode_utf8 y ++ flat_map char_bytes ds) (sym (same ∙ four_value bs (at + 2) a b c d f));
}
unit_piece bs at cs ch utf8 (a_pair a b c d x f g y ds e v w is len z h) u other same = absurd (let k = sym other ∙ four_high bs (at + 2) a b c d v ∙ pair_high a b c d x f g y is in cc k)

pub pair_piece : (bs : List ℕ) (at : ℕ) (cs : List Char) (ch : ℕ) → IsUtf8 bs → Escaped bs at cs → get_or bs (at + 1) 0 ≡ 117 → is_high bs (at + 2) ≡ true → ch ≡ 0x10000 + (value_at bs (at + 2) - 0xd800) * 1024 + (value_at bs (at + 8) - 0xdc00)
    → GoesOn bs at cs (at + 12) (encode_utf8 ch)
pair_piece bs at cs ch utf8 (a_short x ds e is len h) u high same = absurd (no_letter x is (sym e ∙ u))
pair_piece bs at cs ch utf8 (a_unit a b c d ds e f is len z h) u high same = absurd (let k = sym high ∙ four_high bs (at + 2) a b c d f ∙ unit_no_high a b c d is in cc k)
pair_piece bs at cs ch utf8 (a_pair a b c d x f g y ds e v w is len z h) u high same =
    record {
      ahead = omega arith;
      within = len;
      boundary = after_small bs (at + 11) (at + 12) y utf8 (omega arith) z (hex_ascii y (subst (λ k. is_hex k ≡ true) w.fourth (low_half bs at (pair a b c d x f g y ∷ ds) (a_pair a b c d x f g y ds e v w is len z h) u high).hex.fourth)) (omega arith);
      rest = ds;
      follow = h;
      says = ap (λ k. encode_utf8 k ++ flat_map char_bytes ds) (sym (same ∙ ap₂ (λ i j. 0x10000 + (i - 0xd800) * 1024 + (j - 0xdc00)) (four_value bs (at + 2) a b c d v) (four_value bs (at + 8) x f g y w)));
    }

-- ---- a run of bytes that stand for themselves

pub run_chars : (n : ℕ) (cs : List Char) (t : List ℕ) → n ≤ length t → ((k : ℕ) → k < n → get_or t k 0 ≡ 34 → ⊥) → ((k : ℕ) → k < n → get_or t k 0 ≡ 92 → ⊥) → Chars cs t []
    → (rest : List Char) × Chars rest (drop n t) [] × (flat_map char_bytes cs ≡ take n t ++ flat_map char_bytes rest)
run_chars zero cs t le no_q no_b h = (cs, h, refl)
run_chars (suc n) [] t le no_q no_b e = absurd (no_q 0 (omega arith) (ap (λ l. get_or l 0 0) e))
run_chars (suc n) (byte x ∷ cs) t le no_q no_b (is, (m, e, h)) =
    let shorter : n ≤ length m = omega (arith, ap length e) in
    let k = run_chars n cs m shorter (λ i lt f. no_q (suc i) (omega arith) (ap (λ l. get_or l (suc i) 0) e ∙ f)) (λ i lt f. no_b (suc i) (omega arith) (ap (λ l. get_or l (suc i) 0) e ∙ f)) h in
    (k.0, subst (λ l. Chars k.0 (drop (suc n) l) []) (sym e) k.1, ap (λ (l : List ℕ). x ∷ l) k.2 ∙ ap (λ l. take (suc n) l ++ flat_map char_bytes k.0) (sym e))
run_chars (suc n) (short x ∷ cs) t le no_q no_b (is, (m, e, h)) = absurd (no_b 0 (omega arith) (ap (λ l. get_or l 0 0) e))
run_chars (suc n) (unit a b c d ∷ cs) t le no_q no_b (is, (m, e, h)) = absurd (no_b 0 (omega arith) (ap (λ l. get_or l 0 0) e))
run_chars (suc n) (pair a b c d x f g y ∷ cs) t le no_q no_b (is, (m, e, h)) = absurd (no_b 0 (omega arith) (ap (λ l. get_or l 0 0) e))

pub run_piece : (bs : List ℕ) (at end : ℕ) (cs : List Char) → at < end → end ≤ length bs → ((k : ℕ) → at ≤ k → k < end → get_or bs k 0 ≡ 34 → ⊥) → ((k : ℕ) → at ≤ k → k < end → get_or bs k 0 ≡ 92 → ⊥)
    → (end < length bs → get_or bs end 0 < 128) → Chars cs (drop at bs) [] → GoesOn bs at cs end (slice_range bs at end)
run_piece bs at end cs ahead within no_q no_b small h =
    let n : ℕ = end - at in
    let sum : at + n ≡ end = omega arith in
    let k = run_chars n cs (drop at bs) (omega (arith, length-drop at bs)) (λ i lt f. no_q (at + i) (omega arith) (omega arith) (sym (get_or-drop at bs i 0) ∙ f)) (λ i lt f. no_b (at + i) (omega arith) (omega arith) (sym (get_or-drop at bs i 0) ∙ f)) h in
    record {
      ahead = ahead;
      within = within;
      boundary = elim (cases_lt end (length bs)) [ inl inside ↦ IsCharBoundary-before_ascii bs end inside (small inside) | inr past ↦ let last : length bs ≡ end = omega arith in subst (IsCharBoundary bs) last (IsCharBoundary-end bs) ];
      rest = k.0;
      follow = subst (λ l. Chars k.0 l []) (drop-drop n at bs ∙ ap (λ i. drop i bs) sum) k.1;
      says = k.2;
    }

-- something is left, since the quote is
pub quote_left : (bs : List ℕ) (at : ℕ) (cs : List Char) → Chars cs (drop at bs) [] → at < length bs
quote_left bs at cs h = elim (cases_lt at (length bs)) [ inl inside ↦ inside | inr past ↦ absurd (none cs (subst (λ l. Chars cs l []) (drop_all at bs past) h)) ]
  where
    none : (cs : List Char) → Chars cs [] [] → ⊥
    none [] e = cc
    none (byte x ∷ cs) (is, (m, e, s)) = cc
    none (short x ∷ cs) (is, (m, e, s)) = cc
    none (unit a c d f ∷ cs) (is, (m, e, s)) = cc
    none (pair a c d f g h i j ∷ cs) (is, (m, e, s)) = cc

-- a quote ends the string
pub quote_ends : (bs : List ℕ) (at : ℕ) (cs : List Char) → get_or bs at 0 ≡ 34 → Chars cs (drop at bs) [] → cs ≡ []
quote_ends bs at [] q h = refl
quote_ends bs at (byte x ∷ cs) q (is, (m, e, s)) = absurd (no_quote x is (sym (look bs (x ∷ m) at 0 at e (omega arith)) ∙ q))
quote_ends bs at (short x ∷ cs) q (is, (m, e, s)) = absurd (slash_no_quote (sym (look bs (92 ∷ x ∷ m) at 0 at e (omega arith)) ∙ q))
quote_ends bs at (unit a c d f ∷ cs) q (is, (m, e, s)) = absurd (slash_no_quote (sym (look bs (92 ∷ 117 ∷ a ∷ c ∷ d ∷ f ∷ m) at 0 at e (omega arith)) ∙ q))
quote_ends bs at (pair a c d f g h i j ∷ cs) q (is, (m, e, s)) = absurd (slash_no_quote (sym (look bs (92 ∷ 117 ∷ a ∷ c ∷ d ∷ f ∷ 92 ∷ 117 ∷ g ∷ h ∷ i ∷ j ∷ m) at 0 at e (omega arith)) ∙ q))
